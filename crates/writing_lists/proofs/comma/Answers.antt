-- `writing_lists::comma` meets its contract.
use Rattle.writing.specs.Added.{added_all}
use Rattle.writing_lists.specs.Parted.{comma_text}
use Rattle.writing_lists.proofs.comma.Goals as goal

pub returns-then-more : goal.returns-then-more
unfolding comma_text
returns-then-more g c = rw c.if-more.true c.byte.ensures

pub returns-else-more : goal.returns-else-more
unfolding comma_text
returns-else-more g c = rw c.if-more.false (added_all _ _)
