-- `text::count` meets its contract. The invariant: what is counted, and what is left to count from a place on.
use Rattle.std.proofs.Common.{arith, eq-eqb, ne_eqb}
use Rattle.text.specs.Cut.{counted_here, counted_other, counted_end}
use Rattle.text.proofs.count.Goals as goal
use Rattle.text.proofs.count.Goals.{else-x-b, then-x-b}

pub loop-x-init : goal.loop-x-init
loop-x-init c = (omega arith, omega arith)

pub loop-x-preserved : goal.loop-x-preserved
loop-x-preserved c =
    elim c.if-x-b.branch [ then-x-b w ↦ (omega arith, rw w.n-is (counted_here _ _ c.loop-x.x-index c.loop-x.n (omega arith) (eq-eqb _ _ w.if-x-b.true) c.loop-x.invariant.1)) | else-x-b w ↦ (omega arith, rw w.n-is (counted_other _ _ c.loop-x.x-index c.loop-x.n (omega arith) (ne_eqb _ _ w.if-x-b.false) c.loop-x.invariant.1)) ]

pub returns : goal.returns
returns c = counted_end _ _ c.loop-x.x-index c.loop-x.n (omega arith) c.loop-x.invariant.1
