-- `writing::number` meets its contract.
use Rattle.writing.specs.Number.{spelled, spelled_end}
use lib.Seq.{length-take-le}
use mathlib.Core.Path.{refl, sym}
use native.Mathlib.Omega.{arith}
use Rattle.writing.proofs.number.Goals as goal

pub put-end-requires : goal.put-end-requires
put-end-requires c = tt

pub slice_bounds-digits-end : goal.slice_bounds-digits-end
slice_bounds-digits-end c =
    let n = c.put-end.auto.out in
    let e = spelled_end _ _ _ _ refl c.put-end.ensures.value c.put-end.ensures.out_after in
    omega arith

pub slice_bounds-put-end-2 : goal.slice_bounds-put-end-2
slice_bounds-put-end-2 c =
    let n = c.put-end.auto.out in
    let e = spelled_end _ _ _ _ refl c.put-end.ensures.value c.put-end.ensures.out_after in
    sym (length-take-le _ _ (omega arith))

pub put-requires : goal.put-requires
put-requires c = tt

pub returns : goal.returns
returns c =
    rw (spelled _ _ _ _ refl c.put-end.ensures.value c.put-end.ensures.out_after) at c.put.ensures
