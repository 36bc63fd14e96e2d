-- `text::tail` meets its contract.
use Rattle.text.specs.Cut.{tail_of, place_le}
use lib.Seq.{take_all, take-nil}
use lib.ListN.{length, drop, length-drop, drop_of_length-le}
use Prim.Native.Nat.{◌+◌, ◌-◌}
use mathlib.Core.Path.{sym}
use native.Mathlib.Omega.{arith}
use Rattle.text.proofs.tail.Goals as goal

pub returns-then-n-s : goal.returns-then-n-s
unfolding tail_of
returns-then-n-s c =
    let s = c.args.s.now in
    let n = c.until-n.result in
    rw (sym c.until-n.ensures) (take_all (length s - (n + 1)) (drop (n + 1) s) (omega (arith, length-drop (n + 1) s)))

pub slice_bounds-result-count-2 : goal.slice_bounds-result-count-2
slice_bounds-result-count-2 c = rw c.until-n.ensures (place_le _ _)

pub slice_bounds-result-start-2 : goal.slice_bounds-result-start-2
slice_bounds-result-start-2 c = rw c.until-n.ensures (place_le _ _)

pub returns : goal.returns
unfolding tail_of
returns c =
    let s = c.args.s.now in
    let n = c.until-n.result in
    rw (sym c.until-n.ensures, drop_of_length-le s {i = n} (omega arith), drop_of_length-le s {i = n + 1} (omega arith)) (take-nil (length s - n))
