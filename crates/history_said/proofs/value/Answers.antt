-- `history_said::value` meets its contract.
use Rattle.writing.specs.Added.{added_then}
use Rattle.history_said.specs.Texts.{value_text}
use Rattle.history_said.proofs.value.Goals as goal

pub returns : goal.returns
unfolding value_text
returns g c =
    added_then c.byte.ensures (added_then c.pair.ensures (added_then c.byte-2.ensures (added_then c.number.ensures c.mark.ensures)))
