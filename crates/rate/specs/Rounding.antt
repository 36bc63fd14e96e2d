-- One rounded step: the f32 that lib.Ieee's `round` makes of a fraction in the normal range is within one part in 2 ^ 24 of it.
use Rattle.std.specs.Prelude.{◌≡◌, ℕ, ◌+◌, ◌*◌, ◌/◌, ◌%◌, ◌^◌, ◌<◌, ◌≤◌, true, false, not, T, Float}
use Rattle.std.proofs.Common.{true≢false, inl, inr, sym, ap, ◌∙◌, subst, le_trans, le_of_eq, mod-lt, eq-zero-or-pos, zero-lt-suc, zero-mul, suc-mul, mul_assoc, mul_comm, mul_right_comm, mul-pos, mul-le-mul_right, le_of_mul-le-mul_right, div-add-mod', le-div_iff_mul-le, arith, lit≤, leb→le, eqb→eq, pow-add, pow_pos}
use Prim.Native.Nat.{suc-le-suc, compare, Ordering}
use Rattle.std.proofs.Math.Dec.{is_le, compare_is_eq, nleb→lt}
use Rattle.std.specs.Float.{nan, inf, fin, binary32}
use Rattle.std.specs.Float.Ieee.{size, nearest, round}
use Rattle.std.specs.Float.Ieee.Digits.{size_reaches}
use Rattle.std.specs.Float.Ieee.Exact.{HasValue}
use Rattle.std.specs.Float.Ieee.Fits.{nearest-le}
use Rattle.std.specs.Float.Ieee.Nearest.{closest, closest_same, nearest-ge}
use Rattle.std.specs.Float.Ieee.Order.{drop}
use Rattle.std.specs.Float.Ieee.Positive.{num, den, value→cross}
use Rattle.std.specs.Float.Ieee.Scale.{grid, round_val, normal_of_fraction}
use Rattle.rate.specs.Within.{plain, apart, Within}

-- ---- n / u to the nearest whole number is off by half of one at most: twice the difference, times u, is at most u
module _ (n u q r : ℕ) (whole : q * u + r ≡ n) (rest : r < u) where
  near_by : (o : Ordering) → (T (is_le o) → r * 2 ≤ u) → (T (not (is_le o)) → u < r * 2) → (T (compare_is_eq o) → r * 2 ≡ u)
      → (nearest q o * u * 2 ≤ n * 2 + u) × (n * 2 ≤ nearest q o * u * 2 + u)
  near_by Ordering.lt le gt eq = let h = le tt in omega arith
  near_by Ordering.eq le gt eq =
      let h = eq tt in
      let low = mul-le-mul_right u (nearest-ge q Ordering.eq) in
      let high = mul-le-mul_right u (nearest-le q Ordering.eq) in
      omega (arith, suc-mul q u)
  near_by Ordering.gt le gt eq = let h = gt tt in omega (arith, suc-mul q u)

closest_near : (n u : ℕ) → 0 < u → (closest n u * u * 2 ≤ n * 2 + u) × (n * 2 ≤ closest n u * u * 2 + u)
closest_near n u h =
    near_by n u (n / u) (n % u) (div-add-mod' n u) (mod-lt n h) (compare (n % u * 2) u) (leb→le (n % u * 2) u) (nleb→lt (n % u * 2) u) (eqb→eq (n % u * 2) u)

-- ---- in the normal range, where the whole part of n / c has all of the 24 digits that are kept, what the last of them is worth goes into n / c 2 ^ 23 times at least
last_digit : (n c : ℕ) → 0 < c → 24 ≤ size (n / c) → 8388608 * (c * 2 ^ drop 24 n c) ≤ n
last_digit n c C N =
    let k = drop 24 n c in
    let h : 2 ^ (23 + k) ≤ n / c = size_reaches (n / c) (23 + k) (omega arith) in
    le_trans (le_of_eq (ap (λ (z : ℕ). 8388608 * z) (mul_comm c (2 ^ k)) ∙ sym (mul_assoc 8388608 (2 ^ k) c) ∙ ap (λ (z : ℕ). z * c) (sym (pow-add 2 23 k)))) ((le-div_iff_mul-le C).0 h)

-- ---- the law
-- The smallest positive f32 is 1 / `unit`, so that every finite one is g / `unit` for a whole number g.
unfoldable pub unit : ℕ
unit = 2 ^ 149

pub unit_pos : 0 < unit
unfolding unit
unit_pos = pow_pos 149

pub unit_large : 2 ^ 64 ≤ unit
unfolding unit
unit_large = lit≤ tt

-- A number above 0 is `unit` / `unit` at least.
pub at_least : (n : ℕ) → 0 < n → unit ≤ n * unit
at_least n h = omega (arith, mul-le-mul_right unit h)

-- a / c rounded is g / `unit`
pub units_of : ℕ → ℕ → ℕ
units_of a c = grid binary32 a c

-- g / `unit` differs from a / c by at most one part in 2 ^ 24 of a / c. Both sides are multiplied by c and by `unit`.
pub record Near (g a c : ℕ) : Type 0 where
  pub upper : 16777216 * (g * c) ≤ 16777217 * (a * unit)
  pub lower : 16777215 * (a * unit) ≤ 16777216 * (g * c)

part : (x n u : ℕ) → x * 2 ≤ n * 2 + u → n * 2 ≤ x * 2 + u → 8388608 * u ≤ n → (16777216 * x ≤ 16777217 * n) × (16777215 * n ≤ 16777216 * x)
part x n u h l d = omega arith

normal_near : (a c : ℕ) → 0 < c → 8388608 * c ≤ a * unit → Near (units_of a c) a c
unfolding unit units_of
normal_near a c C N =
    let n = a * 2 ^ 149 in
    let k = drop 24 n c in
    let u = c * 2 ^ k in
    let h = closest_near n u (mul-pos C (pow_pos k)) in
    let e : closest n u * u ≡ grid binary32 a c * c = ap (λ (z : ℕ). closest n u * z) (mul_comm c (2 ^ k)) ∙ sym (mul_assoc (closest n u) (2 ^ k) c) in
    let p = part (closest n u * u) n u h.0 h.1 (last_digit n c C (normal_of_fraction binary32 a c C N)) in
    record {
      upper = subst (λ (z : ℕ). 16777216 * z ≤ 16777217 * n) e p.0;
      lower = subst (λ (z : ℕ). 16777215 * n ≤ 16777216 * z) e p.1;
    }

zero_units : (c : ℕ) → 0 < c → units_of 0 c ≡ 0
unfolding units_of
zero_units c C =
    let k = drop 24 0 c in
    let u = c * 2 ^ k in
    ap (λ (z : ℕ). z * 2 ^ k) (closest_same 0 u 0 1 (mul-pos C (pow_pos k)) (zero-lt-suc 0) (sym (zero-mul u))) ∙ zero-mul (2 ^ k)

-- 0 is exact, and what is above 0 has to be in the normal range, which begins at 2 ^ 23 / `unit`.
pub round_near : (a c : ℕ) → 0 < c → (0 < a → 8388608 * c ≤ a * unit) → Near (units_of a c) a c
round_near a c C N = elim (eq-zero-or-pos a) [ inl z ↦ zero z | inr p ↦ normal_near a c C (N p) ]
  where
    zero : a ≡ 0 → Near (units_of a c) a c
    zero z = subst (λ (b : ℕ). Near (units_of b c) b c) (sym z) (subst (λ (g : ℕ). Near g 0 c) (sym (zero_units c C)) (record { upper = omega (arith, zero-mul c); lower = omega (arith, zero-mul c) }))

-- It is finite where g / `unit` is not very large, and then g / `unit` is its value.
pub round_value : (x : Float) (a c : ℕ) → x ≡ round binary32 false a c → units_of a c ≤ 2 ^ 40 * unit → HasValue x false (units_of a c) unit
unfolding unit units_of
round_value x a c e h =
    subst (λ (z : Float). HasValue z false (grid binary32 a c) (2 ^ 149)) (sym e) (round_val binary32 a c (le_trans (suc-le-suc h) (lit≤ tt)))

-- ---- from g / `unit` to what it is the value of
-- X / Y and x / y are the same fraction
pub same_fraction : (p q X Y x y d w : ℕ) → X * d ≡ x * w → Y * d ≡ y * w → 0 < w → p * X ≤ q * Y → p * x ≤ q * y
same_fraction p q X Y x y d w h k W l =
    le_of_mul-le-mul_right
    (le_trans (le_of_eq (mul_assoc p x w ∙ ap (λ (z : ℕ). p * z) (sym h) ∙ sym (mul_assoc p X d)))
    (le_trans (mul-le-mul_right d l) (le_of_eq (mul_assoc q Y d ∙ ap (λ (z : ℕ). q * z) k ∙ sym (mul_assoc q y w)))))
    W

plain_value : (x : Float) (a c : ℕ) → HasValue x false a c → T (plain x)
plain_value nan a c h = h
plain_value (inf s) a c h = h
plain_value (fin true m e) a c h = true≢false h.0
plain_value (fin false m e) a c h = tt

within : (x z : ℕ) → 4194304 * x ≤ 4194305 * z → 4194303 * z ≤ 4194304 * x → 4194304 * apart x z ≤ z
within x z h k = omega arith

pub value_within : (x : Float) (g a c : ℕ) → HasValue x false g unit → 4194304 * (g * c) ≤ 4194305 * (a * unit) → 4194303 * (a * unit) ≤ 4194304 * (g * c)
    → Within 4194304 x a c
value_within x g a c v upper lower =
    let h : g * c * den x ≡ num x * c * unit = mul_right_comm g c (den x) ∙ ap (λ (z : ℕ). z * c) (sym (value→cross x g unit v)) ∙ mul_right_comm (num x) unit c in
    let k : a * unit * den x ≡ a * den x * unit = mul_right_comm a unit (den x) in
    record {
      finite = plain_value x g unit v;
      close =
          within (num x * c) (a * den x)
          (same_fraction 4194304 4194305 (g * c) (a * unit) (num x * c) (a * den x) (den x) unit h k unit_pos upper)
          (same_fraction 4194303 4194304 (a * unit) (g * c) (a * den x) (num x * c) (den x) unit k h unit_pos lower);
    }
