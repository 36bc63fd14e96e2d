-- `history_show::entry` meets its contract.
use Rattle.writing.specs.Added.{added_then}
use Rattle.history_show.specs.Texts.{entry_text}
use Rattle.history_show.proofs.entry.Goals as goal

pub returns : goal.returns
unfolding entry_text
returns g c =
    added_then c.pair.ensures (added_then (rw c.letter.ensures at c.byte.ensures) c.pin.ensures)
