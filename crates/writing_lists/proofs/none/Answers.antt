-- `writing_lists::none` meets its contract.
use Rattle.writing.specs.Added.{added_all}
use Rattle.writing_lists.specs.Parted.{none_text}
use Rattle.writing_lists.proofs.none.Goals as goal

pub returns-then-not-some : goal.returns-then-not-some
unfolding none_text
returns-then-not-some g c = rw c.if-not-some.true c.byte.ensures

pub returns-else-not-some : goal.returns-else-not-some
unfolding none_text
returns-else-not-some g c = rw c.if-not-some.false (added_all _ _)
