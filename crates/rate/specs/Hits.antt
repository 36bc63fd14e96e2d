-- The hit rate is within one part in 4,194,304 of 100 × hits / total: two rounded f32 steps against the exact fraction, in whole numbers.
use Rattle.std.specs.Prelude.{◌≡◌, ℕ, ◌+◌, ◌*◌, ◌^◌, ◌<◌, ◌≤◌, min, true, false, T, refl, Float}
use Rattle.std.proofs.Common.{inl, inr, ◌∙◌, subst, le_of_eq, eq-zero-or-pos, mul_assoc, mul_comm, mul-pos, mul-le-mul_right, le_of_mul-le-mul_right, lit<, lit≤}
use Rattle.std.proofs.Math.Path.{sym, ap}
use Rattle.std.proofs.Math.Nat.{le_trans, mul-one}
use native.Mathlib.Omega.{arith}
use Rattle.std.specs.Float.Ieee.{binary32, round, of_int, mul, div, lt}
use Rattle.std.specs.Float.Ieee.Exact.{HasValue}
use Rattle.std.specs.Float.Ieee.Positive.{first_pos}
use Rattle.rate.specs.Rate.{f32, most_counted, hit_rate_of}
use Rattle.rate.specs.Order.{zero_ranked}
use Rattle.rate.specs.Code.{hit_none, hit_some}
use Rattle.rate.specs.Within.{plain, Within}
use Rattle.rate.specs.Operations.{whole_value, mul_at, div_at}
use Rattle.rate.specs.Rounding.{unit, unit_pos, unit_large, at_least, units_of, round_near, round_value, same_fraction, value_within}

-- 100 × hits, and that / total, each as g / `unit`
hundreds : ℕ → ℕ
hundreds h = units_of (100 * h) 1

shares : ℕ → ℕ → ℕ
shares h t = units_of (hundreds h) (unit * t)

compose : (x w z : ℕ) → 16777216 * x ≤ 16777217 * w → 16777215 * w ≤ 16777216 * x → 16777216 * w ≤ 16777217 * z → 16777215 * z ≤ 16777216 * w
    → (4194304 * x ≤ 4194305 * z) × (4194303 * z ≤ 4194304 * x)
compose x w z a b c d = omega arith

module _ (h t : ℕ) (some : 0 < t) (few : h ≤ t) (most : t ≤ most_counted) where
  hundreds_near : (16777216 * hundreds h ≤ 16777217 * (100 * h * unit)) × (16777215 * (100 * h * unit) ≤ 16777216 * hundreds h)
  unfolding hundreds
  hundreds_near =
      let n = round_near (100 * h) 1 (lit< tt) (λ (g : 0 < 100 * h). omega (arith, unit_large, at_least (100 * h) g)) in
      omega arith

  hundreds_le : hundreds h ≤ 2 ^ 40 * unit
  hundreds_le =
      let m : 100 * h * unit ≤ 1677721500 * unit = mul-le-mul_right unit (omega arith) in
      omega (arith, hundreds_near.0)

  hundreds_value : HasValue (mul binary32 (f32 100) (f32 h)) false (hundreds h) unit
  unfolding hundreds
  hundreds_value = round_value (mul binary32 (f32 100) (f32 h)) (100 * h) 1 (mul_at (f32 100) (f32 h) 100 1 h 1 (lit< tt) (lit< tt) (whole_value 100 (lit≤ tt)) (whole_value h (omega arith))) hundreds_le

  hundreds_large : 0 < hundreds h → 8388608 * t ≤ hundreds h
  hundreds_large g =
      let p : 0 < 100 * h * unit = omega (arith, hundreds_near.0) in
      omega (arith, hundreds_near.1, at_least (100 * h) (first_pos (100 * h) unit p), unit_large)

  shares_near : (16777216 * (shares h t * t) ≤ 16777217 * hundreds h) × (16777215 * hundreds h ≤ 16777216 * (shares h t * t))
  unfolding shares
  shares_near =
      let g = shares h t in
      let w = hundreds h in
      let x : g * (unit * t) * 1 ≡ g * t * unit = mul-one (g * (unit * t)) ∙ ap (λ (z : ℕ). g * z) (mul_comm unit t) ∙ sym (mul_assoc g t unit) in
      let y : w * unit * 1 ≡ w * unit = mul-one (w * unit) in
      let normal : 0 < w → 8388608 * (unit * t) ≤ w * unit = λ (p : 0 < w).
      le_trans (le_of_eq (ap (λ (z : ℕ). 8388608 * z) (mul_comm unit t) ∙ sym (mul_assoc 8388608 t unit))) (mul-le-mul_right unit (hundreds_large p)) in
      let n = round_near w (unit * t) (mul-pos unit_pos some) normal in (
        same_fraction 16777216 16777217 (g * (unit * t)) (w * unit) (g * t) w 1 unit x y unit_pos n.upper,
        same_fraction 16777215 16777216 (w * unit) (g * (unit * t)) w (g * t) 1 unit y x unit_pos n.lower,
      )

  two_steps : (4194304 * (shares h t * t) ≤ 4194305 * (100 * h * unit)) × (4194303 * (100 * h * unit) ≤ 4194304 * (shares h t * t))
  two_steps = compose (shares h t * t) (hundreds h) (100 * h * unit) shares_near.0 shares_near.1 hundreds_near.0 hundreds_near.1

  shares_le : shares h t ≤ 2 ^ 40 * unit
  shares_le =
      let m : 100 * h * unit ≤ 100 * t * unit = mul-le-mul_right unit (omega arith) in
      le_of_mul-le-mul_right {n = 2 ^ 40 * unit} (omega (arith, two_steps.0, mul_assoc 100 t unit, mul_comm t unit, mul_assoc (2 ^ 40) unit t)) some

  shares_value : HasValue (div binary32 (mul binary32 (f32 100) (f32 h)) (f32 t)) false (shares h t) unit
  unfolding shares
  shares_value =
      let x = mul binary32 (f32 100) (f32 h) in
      round_value (div binary32 x (f32 t)) (hundreds h) (unit * t)
      (div_at x (f32 t) (hundreds h) unit t 1 unit_pos (lit< tt) hundreds_value (whole_value t (omega arith)) some
      ∙ ap (λ (z : ℕ). round binary32 false z (unit * t)) (mul-one (hundreds h)))
      shares_le

  share_within : Within 4194304 (div binary32 (mul binary32 (f32 100) (f32 h)) (f32 t)) (100 * h) t
  share_within = value_within (div binary32 (mul binary32 (f32 100) (f32 h)) (f32 t)) (shares h t) (100 * h) t shares_value two_steps.0 two_steps.1

-- ---- the laws
-- Nothing asked for: 0.
pub hit_rate_none : hit_rate_of 0 0 ≡ f32 0
hit_rate_none = hit_none 0 0 0 0 refl refl refl

pub hit_rate_within : (hits misses : ℕ) → 0 < hits + misses → hits + misses ≤ 16777215 → Within 4194304 (hit_rate_of hits misses) (100 * hits) (hits + misses)
hit_rate_within hits misses s m =
    subst (λ (r : Float). Within 4194304 r (100 * hits) (hits + misses))
    (sym (hit_some hits misses hits (hits + misses) (omega arith) (omega arith) (λ (z : hits + misses ≡ 0). omega arith)))
    (share_within hits (hits + misses) s (omega arith) m)

-- Every hit rate is a finite number that is not negative.
pub hit_rate_plain : (hits misses : ℕ) → T (plain (hit_rate_of hits misses))
hit_rate_plain hits misses =
    let h = min hits most_counted in
    let t = min (hits + misses) most_counted in
    elim (eq-zero-or-pos t) [
      | inl z ↦ subst (λ (r : Float). T (plain r)) (sym (hit_none hits misses h t refl refl z)) zero_ranked.finite
      | inr p ↦ subst (λ (r : Float). T (plain r)) (sym (hit_some hits misses h t refl refl (λ (z : t ≡ 0). omega arith))) (share_within h t p (omega arith) (omega arith)).finite
    ]

-- It can come out above 100, though by no more than that part: here 100 × hits is rounded up, and the quotient too.
pub hit_rate_above_100 : lt (f32 100) (hit_rate_of 5368721 0) ≡ true
unfolding hit_rate_of of_int mul div lt
hit_rate_above_100 = refl
