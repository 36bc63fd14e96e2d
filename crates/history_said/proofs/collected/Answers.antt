-- `history_said::collected` meets its contract.
use Rattle.writing.specs.Added.{added_then}
use Rattle.history_said.specs.Texts.{collected_text}
use Rattle.history_said.proofs.collected.Goals as goal

pub returns : goal.returns
unfolding collected_text
returns g c = added_then c.reading.ensures (added_then c.byte.ensures c.number.ensures)
