use borrow.Author.Tests.{lt-ltb, le-ltb}
use Rattle.base.specs.Each.{map_set}
use Rattle.control_line.specs.Rows.{line_of, slot_at, read_back}
use Rattle.control_line.specs.Ring.{push_of}
use Rattle.control_line.proofs.places.push.Goals as goal

pub returns-then-ends-lt1024 : goal.returns-then-ends-lt1024
unfolding line_of push_of
returns-then-ends-lt1024 c = rw (lt-ltb _ _ c.if-ends-lt1024.true, map_set slot_at, c.row_of.ensures, read_back)

pub returns-else-ends-lt1024 : goal.returns-else-ends-lt1024
unfolding line_of push_of
returns-else-ends-lt1024 c = rw (le-ltb _ _ c.if-ends-lt1024.false)
