-- `history_said::check` meets its contract.
use Rattle.history_said.specs.Texts.{check_text}
use Rattle.history_said.proofs.check.Goals as goal

pub returns-then-yes : goal.returns-then-yes
unfolding check_text
returns-then-yes g c = rw c.if-yes.true c.put.ensures

pub returns-else-yes : goal.returns-else-yes
unfolding check_text
returns-else-yes g c = rw c.if-yes.false c.put-else-yes.ensures
