-- `ascii::is_between` meets its contract.
use Rattle.std.proofs.Common.{le-leb}
use Rattle.std.proofs.lemmas.Bool.{lt-leb}
use Rattle.ascii.specs.Chars.{between}
use Rattle.ascii.proofs.is_between.Goals as goal

pub returns-then-low-b : goal.returns-then-low-b
unfolding between
returns-then-low-b c = rw (le-leb _ _ c.if-low-b.true)

pub returns-else-low-b : goal.returns-else-low-b
unfolding between
returns-else-low-b c = rw (lt-leb _ _ c.if-low-b.false)
