-- `history_show::message` meets its contract.
use Rattle.writing.specs.Added.{added_then}
use Rattle.history_show.specs.Texts.{message_text}
use Rattle.history_show.proofs.message.Goals as goal

pub returns-in-SetPidPriority : goal.returns-in-SetPidPriority
unfolding message_text
returns-in-SetPidPriority g c =
    rw c.in-SetPidPriority.is (added_then c.pair.ensures (rw c.letter.ensures at c.byte.ensures))

pub returns-in-RemovePid : goal.returns-in-RemovePid
unfolding message_text
returns-in-RemovePid g c =
    rw c.in-RemovePid.is (added_then c.pair-in-RemovePid.ensures c.byte-in-RemovePid.ensures)
