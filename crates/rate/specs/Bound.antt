-- The rate is within one part in 4,194,304 of 1,000 × count / elapsed: three rounded f32 steps against the exact fraction, in whole numbers.
use Rattle.std.specs.Prelude.{◌≡◌, ℕ, ◌+◌, ◌*◌, ◌/◌, ◌%◌, ◌^◌, ◌<◌, ◌≤◌, min, max, false, T, Float}
use Rattle.std.proofs.Common.{sym, ◌∙◌, subst, le_trans, le_of_eq, mod-lt, add-mul, mul_assoc, mul_comm, mul_right_comm, mul-one, one-mul, le_of_mul-le-mul_right, div-add-mod', arith, lit<, lit≤}
use Rattle.std.proofs.Math.Path.{ap}
use Rattle.std.proofs.Math.Nat.{mul-le-mul_right}
use Rattle.std.specs.Float.Ieee.{binary32, round, of_int, div}
use Rattle.std.specs.Float.Ieee.Exact.{HasValue}
use Rattle.std.specs.Float.Ieee.Positive.{first_pos}
use Rattle.std.specs.Float.Ieee.Scale.{round_same}
use Rattle.rate.specs.Rate.{f32, most_counted, longest, seconds_of, rate_of}
use Rattle.rate.specs.Operations.{whole_value, nano_value, billion_value, add_at, div_at}
use Rattle.rate.specs.Within.{plain, Within}
use Rattle.rate.specs.Rounding.{unit, unit_pos, unit_large, at_least, units_of, Near, round_near, round_value, same_fraction, value_within}

-- ---- the three results, each as g / `unit`
-- nanoseconds / 1e9
parts : ℕ → ℕ
parts e = units_of (e % 1000) 1000

-- whole seconds + that, before rounding, and rounded
exactly : ℕ → ℕ
exactly e = e / 1000 * unit + parts e

seconds : ℕ → ℕ
seconds e = units_of (exactly e) unit

-- count / that
rates : ℕ → ℕ → ℕ
rates n e = units_of (n * unit) (seconds e)

-- ---- sums on the way, with every product a number of its own
-- P is 16777216: (P - 1)² x ≤ 1000 P² y and P y ≤ (P + 1) z, and the other way round
compose_upper : (x y z : ℕ) → 281474943156225 * x ≤ 281474976710656000 * y → 16777216 * y ≤ 16777217 * z → 4194304 * x ≤ 4194305000 * z
compose_upper x y z h k = omega arith

compose_lower : (x y z : ℕ) → 281474976710656000 * y ≤ 281475010265089 * x → 16777215 * z ≤ 16777216 * y → 4194303000 * z ≤ 4194304 * x
compose_lower x y z h k = omega arith

modest : (a y z w : ℕ) → a ≤ 1001 * y → 16777216 * y ≤ 16777217 * z → z ≤ 16777215 * w → a ≤ 2 ^ 40 * w
modest a y z w h k l = let m : a ≤ 2002 * z = omega arith in omega arith

-- ---- the first step
parts_near : (e : ℕ) → Near (parts e) (e % 1000) 1000
unfolding parts
parts_near e = round_near (e % 1000) 1000 (lit< tt) (λ (h : 0 < e % 1000). omega (arith, unit_large, at_least (e % 1000) h))

parts_le : (e : ℕ) → parts e ≤ 2 * unit
parts_le e =
    let n = parts_near e in
    let m : e % 1000 * unit ≤ 1000 * unit = mul-le-mul_right unit (omega arith) in
    omega (arith, unit_large)

parts_value : (e : ℕ) → HasValue (div binary32 (f32 (e % 1000 * 1000000)) (f32 1000000000)) false (parts e) unit
unfolding parts
parts_value e =
    let k = e % 1000 in
    round_value (div binary32 (f32 (k * 1000000)) (f32 1000000000)) k 1000
    (div_at (f32 (k * 1000000)) (f32 1000000000) (k * 1000000) 1 1000000000 1 (lit< tt) (lit< tt) (nano_value k (mod-lt e (lit< tt))) billion_value (lit< tt)
    ∙ round_same binary32 false (k * 1000000 * 1) (1 * 1000000000) k 1000 (lit< tt) (lit< tt) (omega arith))
    (omega (arith, parts_le e))

-- ---- the second
-- g / `unit` rounded again, where `unit` is the fraction's denominator too
again : (g a : ℕ) → Near g a unit → (16777216 * g ≤ 16777217 * a) × (16777215 * a ≤ 16777216 * g)
again g a n = (
  le_of_mul-le-mul_right (le_trans (le_of_eq (mul_assoc 16777216 g unit)) (le_trans n.upper (le_of_eq (sym (mul_assoc 16777217 a unit))))) unit_pos,
  le_of_mul-le-mul_right (le_trans (le_of_eq (mul_assoc 16777215 a unit)) (le_trans n.lower (le_of_eq (sym (mul_assoc 16777216 g unit))))) unit_pos,
)

-- milliseconds are whole thousands and a rest
thousands : (e : ℕ) → e * unit ≡ 1000 * (e / 1000 * unit) + e % 1000 * unit
thousands e =
    let h : e * unit ≡ (e / 1000 * 1000 + e % 1000) * unit = ap (λ (z : ℕ). z * unit) (sym (div-add-mod' e 1000)) in
    omega (arith, add-mul (e / 1000 * 1000) (e % 1000) unit, mul_right_comm (e / 1000) 1000 unit)

module _ (e : ℕ) (some : 0 < e) (most : e ≤ longest) where
  -- the exact sum is off by no more than its second part is
  exactly_near : (16777216 * (1000 * exactly e) ≤ 16777217 * (e * unit)) × (16777215 * (e * unit) ≤ 16777216 * (1000 * exactly e))
  unfolding exactly
  exactly_near = let n = parts_near e in omega (arith, thousands e)

  exactly_large : 2 ^ 32 ≤ exactly e
  exactly_large = omega (arith, exactly_near, at_least e some, unit_large)

  seconds_near : (16777216 * seconds e ≤ 16777217 * exactly e) × (16777215 * exactly e ≤ 16777216 * seconds e)
  unfolding seconds
  seconds_near = again (seconds e) (exactly e) (round_near (exactly e) unit unit_pos (λ _. mul-le-mul_right unit (le_trans (lit≤ tt) exactly_large)))

  -- both steps together
  two_steps : (281474976710656000 * seconds e ≤ 281475010265089 * (e * unit)) × (281474943156225 * (e * unit) ≤ 281474976710656000 * seconds e)
  two_steps = omega (arith, exactly_near, seconds_near)

  seconds_le : seconds e ≤ 67108864 * unit
  seconds_le =
      let m : e * unit ≤ 16777215999 * unit = mul-le-mul_right unit most in
      let a : exactly e ≤ 16777216 * unit + unit = omega (arith, exactly_near.0) in
      omega (arith, seconds_near.0)

  seconds_pos : 0 < seconds e
  seconds_pos = omega (arith, seconds_near, exactly_large)

  seconds_value : HasValue (seconds_of e) false (seconds e) unit
  unfolding seconds_of seconds exactly
  seconds_value =
      let q = e / 1000 in
      let y = div binary32 (f32 (e % 1000 * 1000000)) (f32 1000000000) in
      round_value (seconds_of e) (q * unit + parts e) unit
      (add_at (f32 q) y q 1 (parts e) unit (lit< tt) unit_pos (whole_value q (omega arith)) (parts_value e)
      ∙ ap (λ (z : ℕ). round binary32 false (q * unit + z) (1 * unit)) (mul-one (parts e))
      ∙ ap (λ (z : ℕ). round binary32 false (q * unit + parts e) z) (one-mul unit))
      (omega (arith, seconds_le))

  -- ---- the third
  quotient_zero : div binary32 (f32 0) (seconds_of e) ≡ f32 0
  unfolding of_int
  quotient_zero =
      div_at (f32 0) (seconds_of e) 0 1 (seconds e) unit (lit< tt) unit_pos (whole_value 0 (lit≤ tt)) seconds_value seconds_pos
      ∙ round_same binary32 false (0 * unit) (1 * seconds e) 0 1 (subst (λ (z : ℕ). 0 < z) (sym (one-mul (seconds e))) seconds_pos) (lit< tt) (omega arith)

  module _ (n : ℕ) (few : n ≤ most_counted) where
    quotient_near : Near (rates n e) (n * unit) (seconds e)
    unfolding rates
    quotient_near =
        round_near (n * unit) (seconds e) seconds_pos (λ (h : 0 < n * unit).
        let a : unit * unit ≤ n * unit * unit = mul-le-mul_right unit (at_least n (first_pos n unit h)) in
        let b : 2 ^ 64 * unit ≤ unit * unit = mul-le-mul_right unit unit_large in
        omega (arith, seconds_le))

    -- the quotient by the least time, 1, is not very large
    quotient_le : rates n e ≤ 2 ^ 40 * unit
    quotient_le =
        let g = rates n e in
        let s = seconds e in
        let a : unit ≤ 1001 * s = omega (arith, two_steps.1, at_least e some) in
        let b : g * unit ≤ 1001 * (g * s) =
        le_trans (le_of_eq (mul_comm g unit)) (le_trans (mul-le-mul_right g a) (le_of_eq (mul_assoc 1001 s g ∙ ap (λ (z : ℕ). 1001 * z) (mul_comm s g)))) in
        let c : n * unit * unit ≤ 16777215 * (unit * unit) = le_trans (mul-le-mul_right unit (mul-le-mul_right unit few)) (le_of_eq (mul_assoc 16777215 unit unit)) in
        le_of_mul-le-mul_right (le_trans (modest (g * unit) (g * s) (n * unit * unit) (unit * unit) b quotient_near.upper c) (le_of_eq (sym (mul_assoc (2 ^ 40) unit unit)))) unit_pos

    rates_value : HasValue (div binary32 (f32 n) (seconds_of e)) false (rates n e) unit
    unfolding rates
    rates_value =
        round_value (div binary32 (f32 n) (seconds_of e)) (n * unit) (seconds e)
        (div_at (f32 n) (seconds_of e) n 1 (seconds e) unit (lit< tt) unit_pos (whole_value n (omega arith)) seconds_value seconds_pos
        ∙ ap (λ (z : ℕ). round binary32 false (n * unit) z) (one-mul (seconds e)))
        quotient_le

    -- ---- the three together
    three_steps : (4194304 * (e * unit * rates n e) ≤ 4194305000 * (n * unit * unit)) × (4194303000 * (n * unit * unit) ≤ 4194304 * (e * unit * rates n e))
    three_steps =
        let g = rates n e in
        let s = seconds e in
        let x = e * unit in
        let y : 281474976710656000 * s * g ≡ 281474976710656000 * (g * s) = mul_assoc 281474976710656000 s g ∙ ap (λ (z : ℕ). 281474976710656000 * z) (mul_comm s g) in (
          compose_upper (x * g) (g * s) (n * unit * unit) (le_trans (le_of_eq (sym (mul_assoc 281474943156225 x g))) (le_trans (mul-le-mul_right g two_steps.1) (le_of_eq y))) quotient_near.upper,
          compose_lower (x * g) (g * s) (n * unit * unit) (le_trans (le_of_eq (sym y)) (le_trans (mul-le-mul_right g two_steps.0) (le_of_eq (mul_assoc 281475010265089 x g)))) quotient_near.lower,
        )

    quotient_within : Within 4194304 (div binary32 (f32 n) (seconds_of e)) (1000 * n) e
    quotient_within =
        let g = rates n e in
        let h : e * unit * g * 1 ≡ g * e * unit = mul-one (e * unit * g) ∙ mul_right_comm e unit g ∙ ap (λ (z : ℕ). z * unit) (mul_comm e g) in
        let k : n * unit * unit * 1 ≡ n * unit * unit = mul-one (n * unit * unit) in
        let upper = same_fraction 4194304 4194305000 (e * unit * g) (n * unit * unit) (g * e) (n * unit) 1 unit h k unit_pos three_steps.0 in
        let lower = same_fraction 4194303000 4194304 (n * unit * unit) (e * unit * g) (n * unit) (g * e) 1 unit k h unit_pos three_steps.1 in
        value_within (div binary32 (f32 n) (seconds_of e)) g (1000 * n) e rates_value (omega (arith, mul_assoc 1000 n unit)) (omega (arith, mul_assoc 1000 n unit))

-- ---- the laws
rate_is : (count elapsed : ℕ) → count ≤ most_counted → 0 < elapsed → elapsed ≤ longest → rate_of count elapsed ≡ div binary32 (f32 count) (seconds_of elapsed)
unfolding rate_of
rate_is count elapsed c s l =
    let x : min count most_counted ≡ count = omega arith in
    let y : max 1 (min elapsed longest) ≡ elapsed = omega arith in
    rw (x, y)

-- THE BOUND. The box's times and counts give an elapsed time of 2,000 at least, and it holds from 1 on.
pub rate_within : (count elapsed : ℕ) → count ≤ 16777215 → 0 < elapsed → elapsed ≤ 16777215999 → Within 4194304 (rate_of count elapsed) (1000 * count) elapsed
rate_within count elapsed c s l =
    subst (λ (r : Float). Within 4194304 r (1000 * count) elapsed) (sym (rate_is count elapsed c s l)) (quotient_within elapsed s l count c)

-- Every rate, also one of a count or a time that the box refuses, is a finite number that is not negative.
pub rate_plain : (count elapsed : ℕ) → T (plain (rate_of count elapsed))
unfolding rate_of
rate_plain count elapsed =
    let n = min count most_counted in
    let e = max 1 (min elapsed longest) in
    (quotient_within e (omega arith) (omega arith) n (omega arith)).finite

-- No count, no rate.
pub rate_zero : (elapsed : ℕ) → rate_of 0 elapsed ≡ f32 0
unfolding rate_of
rate_zero elapsed = quotient_zero (max 1 (min elapsed longest)) (omega arith) (omega arith)
