-- `history_said::step` meets its contract.
use Rattle.history_said.specs.Texts.{step_text}
use Rattle.history_said.proofs.step.Goals as goal

pub returns-in-Ask : goal.returns-in-Ask
unfolding step_text
returns-in-Ask g c = rw c.in-Ask.is c.query.ensures

pub returns-in-End : goal.returns-in-End
unfolding step_text
returns-in-End g c = rw c.in-End.is c.numbered.ensures
