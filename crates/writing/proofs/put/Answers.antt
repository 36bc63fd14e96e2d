-- `writing::put` meets its contract. The invariant: what is left of the text.
use Rattle.writing.specs.Added.{next_byte}
use Rattle.writing.specs.Fill.{left_all, left_next, left_none}
use lib.ListN.{drop_of_length-le}
use native.Mathlib.Omega.{arith}
use mathlib.Core.Path.{refl}
use Rattle.writing.proofs.put.Goals as goal

pub loop-b-init : goal.loop-b-init
loop-b-init c = (refl, left_all _ _ _)

pub loop-b-preserved : goal.loop-b-preserved
loop-b-preserved c =
    (omega arith, left_next c.loop-b.invariant.1 (next_byte _ c.loop-b.b-index c.loop-b-test.true) c.byte-place.ensures)

pub returns : goal.returns
returns c = let h = c.loop-b-test.false in left_none c.loop-b.invariant.1 (drop_of_length-le _ {i = c.loop-b.b-index} (omega arith))
