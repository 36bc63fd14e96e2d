-- `hex::turn_pairs` meets its contract. The invariant: the first i bytes are written.
use Rattle.hex_text.specs.Laws.{pairs_length}
use Rattle.hex_text.specs.Turn.{block, block_length, block_pairs, block_left, block_next}
use Rattle.hex_text.specs.Pairs.{pairs}
use Rattle.base.specs.Write.{over, over_none, take_over}
use Rattle.text.specs.Put.{put_fits}
use lib.Seq.{take_all, length-take-le}
use lib.ListN.{length, take, drop}
use Prim.Native.Nat.{ℕ, ◌≤◌, ◌-◌, ◌*◌, ◌+◌, ◌/◌}
use mathlib.Core.List.{List}
use mathlib.Core.Path.{◌≡◌, refl, sym, ap, ◌∙◌}
use native.Mathlib.Omega.{arith}
use Rattle.hex_text.proofs.turn_pairs.Goals as goal
use Rattle.hex_text.proofs.turn_pairs.Goals.{After-min-m, After-read_pairs}

-- A turn's block lies within the text, and its pairs are still there; then its bytes stand in the block.
fits : (c : After-min-m) → c.loop-i.i + c.min-m.result ≤ length c.args.s.now / 2
fits c = let e = c.min-m.ensures in omega arith

abbrev now-read : After-min-m → List ℕ
now-read c = block c.args.s.now c.loop-i.i c.min-m.result (fits c)

left : (c : After-min-m) → take (2 * (c.loop-i.i + c.min-m.result) - 2 * c.loop-i.i) (drop (2 * c.loop-i.i) c.loop-i.s) ≡ now-read c
left c = block_left _ _ _ (fits c) _ c.loop-i.invariant.4

sized : (c : After-min-m) → (length (now-read c) ≡ 2 * c.min-m.result) × (length (pairs (now-read c)) ≡ c.min-m.result) × (c.min-m.result ≤ 64)
sized c =
    let n : length (now-read c) ≡ 2 * c.min-m.result = block_length _ _ _ (fits c) in
    let e = c.min-m.ensures in
    (n, omega (arith, pairs_length (now-read c)), omega arith)

wrote : (c : After-read_pairs) → take c.min-m.result c.read_pairs.new.out ≡ pairs (now-read c.before.before.before)
wrote c =
    let n = sized c.before.before.before in
    let k : length c.loop-i.block ≡ 64 = c.loop-i.invariant.3 in
    let z : 0 + length (pairs (now-read c.before.before.before)) ≡ c.min-m.result = omega arith in
    rw (rw (left c.before.before.before) at c.read_pairs.ensures) (rw z at (take_over c.loop-i.block 0 (pairs (now-read c.before.before.before)) (omega arith)))

pub loop-i-init : goal.loop-i-init
loop-i-init c = (omega arith, omega arith, omega arith, refl, sym (over_none _ 0))

pub overflow_add-i : goal.overflow_add-i
overflow_add-i c = let e = c.min-m.ensures in omega arith

pub overflow_mul-i-in-loop-i : goal.overflow_mul-i-in-loop-i
overflow_mul-i-in-loop-i c = let e = c.min-m.ensures in omega arith

pub slice_bounds-read_pairs-start : goal.slice_bounds-read_pairs-start
slice_bounds-read_pairs-start c = let e = c.min-m.ensures in omega arith

pub slice_bounds-read_pairs-end : goal.slice_bounds-read_pairs-end
slice_bounds-read_pairs-end c = let e = c.min-m.ensures in omega arith

pub slice_bounds-read_pairs-end-in-loop-i : goal.slice_bounds-read_pairs-end-in-loop-i
slice_bounds-read_pairs-end-in-loop-i c = sym c.loop-i.invariant.3

pub read_pairs-requires : goal.read_pairs-requires
read_pairs-requires c =
    let n = sized (goal.at.read_pairs-requires c).After-min-m in
    let k : length c.loop-i.block ≡ 64 = c.loop-i.invariant.3 in
    let h : length (now-read (goal.at.read_pairs-requires c).After-min-m) / 2 ≤ length c.loop-i.block = omega arith in
    record {
      s_value = rw (left (goal.at.read_pairs-requires c).After-min-m) (block_pairs _ _ _ (fits (goal.at.read_pairs-requires c).After-min-m) c.requires);
      s_in_bounds = rw (left (goal.at.read_pairs-requires c).After-min-m) h;
    }

pub slice_bounds-block-end : goal.slice_bounds-block-end
slice_bounds-block-end c =
    let e = c.min-m.ensures in
    let k = c.read_pairs.auto.out in
    omega arith

pub slice_bounds-put-end : goal.slice_bounds-put-end
slice_bounds-put-end c =
    let e = c.min-m.ensures in
    let k = c.read_pairs.auto.out in
    sym (length-take-le _ _ (omega arith))

pub overflow_add-i-in-loop-i : goal.overflow_add-i-in-loop-i
overflow_add-i-in-loop-i c = let e = fits (goal.at.overflow_add-i-in-loop-i c).After-min-m in omega arith

pub loop-i-smaller : goal.loop-i-smaller
loop-i-smaller c =
    let e = fits (goal.at.loop-i-smaller c).After-min-m in
    let f = c.min-m.ensures in
    omega arith

pub loop-i-preserved : goal.loop-i-preserved
loop-i-preserved c =
    let e = fits (goal.at.loop-i-preserved c).After-min-m in
    let n = sized (goal.at.loop-i-preserved c).After-min-m in (
      e,
      omega arith,
      c.put.auto.out ∙ c.loop-i.invariant.2,
      c.read_pairs.auto.out ∙ c.loop-i.invariant.3,
      rw (wrote (goal.at.loop-i-preserved c).After-read_pairs) at c.put.ensures.out_after ∙ put_fits _ _ _ (omega arith) ∙ block_next _ _ _ (fits (goal.at.loop-i-preserved c).After-min-m) _ c.loop-i.invariant.4,
    )

pub returns : goal.returns
returns c =
    let s = c.args.s.now in
    let n = pairs_length s in
    c.loop-i.invariant.4 ∙ ap (over s 0) (take_all c.loop-i.i (pairs s) (omega arith))
