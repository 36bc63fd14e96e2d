-- `history_said::done` meets its contract.
use Rattle.writing.specs.Added.{added_then}
use Rattle.history_said.specs.Texts.{done_text}
use Rattle.history_said.proofs.done.Goals as goal

pub returns : goal.returns
unfolding done_text
returns g c = λ x. added_then c.put.ensures c.values.ensures
