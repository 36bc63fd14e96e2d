-- `history_said::mark` meets its contract.
use Rattle.writing.specs.Added.{added_all}
use Rattle.history_said.specs.Texts.{mark_text}
use Rattle.history_said.proofs.mark.Goals as goal

pub returns-then-notice : goal.returns-then-notice
unfolding mark_text
returns-then-notice g c = rw c.if-notice.true c.byte.ensures

pub returns-else-notice : goal.returns-else-notice
unfolding mark_text
returns-else-notice g c = rw c.if-notice.false (added_all _ _)
