-- `hex::put` meets its contract. The invariant: the first i bytes are written.
use Rattle.hex_text.specs.Laws.{text_length, filled_none, filled_same, filled_next}
use Rattle.hex_text.specs.Pairs.{hex_text}
use Rattle.text.specs.Put.{put_of, put_end, put_full, end_full, put_fits, end_fits}
use Rattle.base.specs.Write.{over}
use lib.Seq.{take_all}
use lib.ListN.{length, length-set}
use mathlib.Core.List.{List}
use Prim.Native.Nat.{ℕ, ◌≤◌, ◌<◌, ◌+◌, ◌*◌}
use mathlib.Core.Path.{◌≡◌, sym, ap, ◌∙◌}
use native.Mathlib.Omega.{arith}
use Rattle.hex_text.proofs.put.Goals as goal

-- The clauses, each under its name.
named_value_out_after : {A B : Type 0} → A × B → record { value : A; out_after : B }
named_value_out_after p = record { value = p.0; out_after = p.1 }

-- past the memory's end with as many pairs
past : (d : List ℕ) (at : ℕ) (s : List ℕ) → length d < at + 2 * length s → (at ≡ put_end d at (hex_text s)) × (d ≡ put_of d at (hex_text s))
past d at s h = let n = text_length s in (sym (end_full d at (hex_text s) (omega arith)), sym (put_full d at (hex_text s) (omega arith)))

pub returns-then-out-at : goal.returns-then-out-at
returns-then-out-at c = named_value_out_after (past _ _ _ (omega arith))

pub returns-then-out-at-2 : goal.returns-then-out-at-2
returns-then-out-at-2 c = named_value_out_after (past _ _ _ (omega arith))

pub loop-i-init : goal.loop-i-init
loop-i-init c = (omega arith, omega arith, filled_none _ _ _ (omega arith))

pub bounds-out-place : goal.bounds-out-place
bounds-out-place c =
    let p = c.loop-i.invariant.2.place_is in
    let n = filled_same _ _ _ c.loop-i.invariant.1 _ _ _ c.loop-i.invariant.2 c.loop-i.invariant.0 in
    omega arith

pub overflow_add-out : goal.overflow_add-out
overflow_add-out c =
    let p = c.loop-i.invariant.2.place_is in
    omega arith

pub bounds-out-place-in-loop-i : goal.bounds-out-place-in-loop-i
bounds-out-place-in-loop-i c =
    let p = c.loop-i.invariant.2.place_is in
    let n = filled_same _ _ _ c.loop-i.invariant.1 _ _ _ c.loop-i.invariant.2 c.loop-i.invariant.0 in
    simp length-set (omega arith)

pub overflow_add-place : goal.overflow_add-place
overflow_add-place c =
    let p = c.loop-i.invariant.2.place_is in
    omega arith

pub loop-i-preserved : goal.loop-i-preserved
loop-i-preserved c = (
  omega arith,
  c.loop-i.invariant.1,
  rw (c.hex_digit.ensures, c.hex_digit-in-loop-i.ensures) (filled_next _ _ _ c.loop-i.invariant.1 c.loop-i.i _ _ c.loop-i.invariant.2 (omega arith)),
)

pub returns : goal.returns
returns c =
    let s = c.args in
    let n = text_length s.bytes.now in
    let p = c.loop-i.invariant.2.place_is in
    let fits : s.at + length (hex_text s.bytes.now) ≤ length s.out.now = omega arith in
    let all = ap (λ (x : List ℕ). over s.out.now s.at (hex_text x)) (take_all c.loop-i.i s.bytes.now (omega arith)) in
    record {
      value = rw (end_fits _ _ _ fits) (omega arith);
      out_after = rw (put_fits _ _ _ fits) (c.loop-i.invariant.2.out_is ∙ all);
    }
