-- `writing_pairs::memory::pairs` meets its contract. The invariant: what is left of the bytes.
use Rattle.writing.specs.Fill.{left_all, left_next, left_none}
use Rattle.writing_pairs.specs.Pairs.{pairs_next, pairs_end}
use mathlib.Core.Path.{refl}
use native.Mathlib.Omega.{arith}
use Rattle.writing_pairs.proofs.memory.pairs.Goals as goal

pub loop-b-init : goal.loop-b-init
loop-b-init c = (refl, left_all _ _ _)

pub loop-b-preserved : goal.loop-b-preserved
loop-b-preserved c =
    (omega arith, left_next c.loop-b.invariant.1 (pairs_next _ c.loop-b.b-index c.loop-b-test.true) c.pair-place.ensures)

pub returns : goal.returns
returns c = left_none c.loop-b.invariant.1 (pairs_end _ c.loop-b.b-index c.loop-b-test.false)
