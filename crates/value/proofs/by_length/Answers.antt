use mathlib.Core.Path.{◌≡◌, refl, sym, ◌∙◌, ap}
use native.Mathlib.Omega.{arith}
use Prim.Native.Nat.{ℕ, ◌≤◌, ◌+◌, ◌-◌}
use lib.ListN.{length, get_or}
use mir.Val.{Fits}
use mir.Syntax.{w8}
use Rattle.reply.specs.Rules.{max_bytes, first_length_of}
use Rattle.value.specs.Rules.{head, max_width, data_of, used_of, value_by}
use Rattle.value.specs.Laws.{fold_step, fold_end, data_length, data_at, data_used, used_le, used_present, folds, folds_fit}
use borrow.Author.Rules.{rules}
use Rattle.value.proofs.by_length.Goals as goal
use Rattle.value.proofs.by_length.Goals.{After-used-n, Start}

-- What is known of the bytes: how many there are, and that each is one.
long : (c : Start) → length c.args.r.bytes ≡ max_bytes
long c = search rules

byte : (c : Start) (i : ℕ) → Fits w8 (get_or c.args.r.bytes i 0)
byte c i = search rules

many : (c : After-used-n) → c.used-n.result ≡ used_of c.args.length (first_length_of c.args.r)
many c = c.used-n.ensures ∙ ap (used_of c.args.length) c.first_length.ensures

few : (c : After-used-n) → c.used-n.result ≤ max_width
few c = rw c.used-n.ensures (used_le _ _)

present : (c : After-used-n) → c.used-n.result ≤ first_length_of c.args.r - head
present c = rw (many c) (used_present _ _)

pub loop-i-init : goal.loop-i-init
loop-i-init c = (omega arith, refl)

pub overflow_mul-acc : goal.overflow_mul-acc
overflow_mul-acc c =
    let i = c.loop-i.i in
    let k = few (goal.at.overflow_mul-acc c).After-used-n in
    let f = folds_fit (i + 1) (omega arith) in
    omega (arith, folds c.loop-i.acc 0 i c.loop-i.invariant.0 (omega arith))

pub overflow_add-acc : goal.overflow_add-acc
overflow_add-acc c = omega (arith, few (goal.at.overflow_add-acc c).After-used-n)

pub bounds-r-i : goal.bounds-r-i
bounds-r-i c = omega (arith, few (goal.at.bounds-r-i c).After-used-n)

pub overflow_cast-acc : goal.overflow_cast-acc
overflow_cast-acc c = omega (arith, byte (goal.at.overflow_cast-acc c).Start (c.loop-i.i + head))

pub overflow_add-acc-in-loop-i : goal.overflow_add-acc-in-loop-i
overflow_add-acc-in-loop-i c =
    let i = c.loop-i.i in
    let b = byte (goal.at.overflow_add-acc-in-loop-i c).Start (i + head) in
    let k = few (goal.at.overflow_add-acc-in-loop-i c).After-used-n in
    let f = folds_fit (i + 1) (omega arith) in
    omega (arith, folds c.loop-i.acc (get_or c.args.r.bytes (i + head) 0) i c.loop-i.invariant.0 (omega arith))

pub loop-i-preserved : goal.loop-i-preserved
loop-i-preserved c =
    let i = c.loop-i.i in
    let acc = c.loop-i.acc in
    let r = c.args.r in
    let n = c.used-n.result in
    let b = byte (goal.at.loop-i-preserved c).Start (i + head) in
    let d = data_at r n (present (goal.at.loop-i-preserved c).After-used-n) i (omega arith) in
    let e = fold_step (data_of n r) acc i (rw (data_length r n (present (goal.at.loop-i-preserved c).After-used-n) (long (goal.at.loop-i-preserved c).Start) (few (goal.at.loop-i-preserved c).After-used-n)) (omega arith)) in (
      folds acc (get_or r.bytes (i + head) 0) i c.loop-i.invariant.0 (omega arith),
      sym (rw d at e) ∙ c.loop-i.invariant.1,
    )

pub returns : goal.returns
unfolding value_by
returns c =
    let r = c.args.r in
    let n = c.used-n.result in
    let at-end = fold_end (data_of n r) c.loop-i.acc c.loop-i.i (rw (data_length r n (present (goal.at.returns c).After-used-n) (long (goal.at.returns c).Start) (few (goal.at.returns c).After-used-n)) (omega arith)) in
    sym at-end ∙ c.loop-i.invariant.1 ∙ rw (many (goal.at.returns c).After-used-n, data_used r c.args.length)
