-- `history_said::set` meets its contract.
use Rattle.writing.specs.Added.{added_then}
use Rattle.history_said.specs.Texts.{control_text}
use Rattle.history_said.proofs.set.Goals as goal

pub returns : goal.returns
unfolding control_text
returns g c =
    added_then c.named.ensures (added_then c.byte.ensures (rw c.digit.ensures at c.byte-2.ensures))
