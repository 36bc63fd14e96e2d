-- The order of rates: `<` on f32 values that are finite and not negative is the order of whole numbers, their `rank`s, and two of one rank are the same value.
use Rattle.std.specs.Prelude.{◌≡◌, ℕ, zero, suc, ◌+◌, ◌-◌, ◌*◌, ◌/◌, ◌%◌, ◌^◌, ◌<◌, ◌≤◌, Bool, true, false, ◌&&◌, T, ltb, ℤ, pos, negsuc, ◌==◌, from_bits, nat_eq, nat_le, nat_lt, refl, Float}
use Rattle.std.proofs.Common.{sym, ap, ◌∙◌, le_trans, le_of_eq, zero-add, one-mul, le_of_suc-le-suc, lt_of_not-le, not-le_of_lt, mul_assoc, mul-div_cancel, mul-le-mul_right, le_of_mul-le-mul_right, arith, ltb-true, ltb-false, eqb-true, lt-ltb, le-ltb, eq-eqb, ne_eqb, lit≤, leb→le, eqb→eq, pow-add}
use Rattle.std.proofs.Math.Nat.{le_antisymm}
use Rattle.std.proofs.lemmas.Bool.{eqb-false}
use Rattle.std.proofs.Math.Pow.{pow-lt}
use Rattle.std.specs.Float.{nan, inf, fin, binary32}
use Rattle.std.specs.Float.Ieee.{up, down, lt, eq, fits, size, to_bits, of_int}
use Rattle.std.specs.Float.Ieee.Bits.{of_bits-to_bits}
use Rattle.std.specs.Float.Ieee.Digits.{back}
use Rattle.std.specs.Float.Ieee.Exact.{HasValue}
use Rattle.std.specs.Float.Ieee.Fits.{and_l, and_r, div-fits, up_pos, down_pos}
use Rattle.std.specs.Float.Ieee.Order.{transfer}
use Rattle.std.specs.Float.Ieee.Positive.{num, den}
use Rattle.base.specs.Choice.{cases}
use Rattle.rate.specs.Rate.{f32, rate_of}
use Rattle.rate.specs.Rounding.{unit, unit_pos}
use Rattle.rate.specs.Operations.{at_fins}
use Rattle.rate.specs.Within.{plain}
use Rattle.rate.specs.Bound.{rate_plain}

-- x is an f32, finite and not negative.
pub record Ranked (x : Float) : Type 0 where
  pub finite : T (plain x)
  pub holds : T (fits binary32 x)

-- How many times the smallest positive f32 goes into x.
pub rank : Float → ℕ
rank x = num x * unit / den x

pub rate_ranked : (count elapsed : ℕ) → Ranked (rate_of count elapsed)
unfolding rate_of
rate_ranked count elapsed = record { finite = rate_plain count elapsed; holds = div-fits binary32 _ _ }

pub zero_ranked : Ranked (f32 0)
unfolding of_int fits
zero_ranked = record { finite = tt; holds = tt }

-- ---- it goes in without a rest
whole_units : (e : ℤ) → down e ≤ unit → (k : ℕ) × (unit ≡ k * down e)
unfolding unit
whole_units (pos j) h = (2 ^ 149, refl)
whole_units (negsuc j) h =
    let l : suc j ≤ 149 = le_of_suc-le-suc (lt_of_not-le (λ (g : 150 ≤ suc j). not-le_of_lt (pow-lt g) h)) in
    (2 ^ (149 - suc j), ap (λ (z : ℕ). 2 ^ z) (sym (back 149 (suc j) l)) ∙ pow-add 2 (149 - suc j) (suc j))

whole_of : (m : ℕ) (e : ℤ) (k : ℕ) → unit ≡ k * down e → m * up e * unit ≡ m * up e * unit / down e * down e
whole_of m e k h =
    let q : m * up e * unit ≡ m * up e * k * down e = ap (λ (z : ℕ). m * up e * z) h ∙ sym (mul_assoc (m * up e) k (down e)) in
    q ∙ ap (λ (z : ℕ). z * down e) (sym (mul-div_cancel (m * up e * k) (down_pos e)) ∙ ap (λ (z : ℕ). z / down e) (sym q))

small_down : (m : ℕ) (e : ℤ) → T (fits binary32 (fin false m e)) → down e ≤ unit
unfolding fits unit
small_down zero e t =
    le_trans (le_of_eq (sym (one-mul (down e)))) (le_trans (mul-le-mul_right (down e) (up_pos e)) (le_trans (le_of_eq (eqb→eq (up e * down e) 1 t)) (lit≤ tt)))
small_down (suc m) e t =
    let ab = suc m % 2 == 1 && ltb (suc m) (2 ^ 24) in
    let c = nat_le (down e) (2 ^ 149) in
    leb→le (down e) (2 ^ 149) (and_r ab c (and_l (ab && c) (nat_lt (suc m * up e) (2 ^ 128 * down e)) t))

pub rank_value : (x : Float) → Ranked x → HasValue x false (rank x) unit
unfolding rank
rank_value nan r = r.finite
rank_value (inf s) r = r.finite
rank_value (fin true m e) r = absurd r.finite
rank_value (fin false m e) r = let k = whole_units e (small_down m e r.holds) in (refl, whole_of m e k.0 k.1)

-- ---- the order
ltb_like : (x y a b : ℕ) → (y ≤ x → b ≤ a) → (b ≤ a → y ≤ x) → nat_lt x y ≡ nat_lt a b
ltb_like x y a b f g =
    cases (nat_lt x y ≡ nat_lt a b) (nat_lt x y)
    (λ (e : ltb x y ≡ true). e ∙ sym (lt-ltb a b (lt_of_not-le (λ (h : b ≤ a). not-le_of_lt (ltb-true x y e) (g h)))))
    (λ (e : ltb x y ≡ false). e ∙ sym (le-ltb a b (f (ltb-false x y e))))

eqb_like : (x y a b : ℕ) → (x ≡ y → a ≡ b) → (a ≡ b → x ≡ y) → (x == y) && true ≡ (a == b)
eqb_like x y a b f g =
    cases (x == y && true ≡ (a == b)) (x == y)
    (λ (e : nat_eq x y ≡ true). ap (λ (t : Bool). t && true) e ∙ sym (eq-eqb a b (f (eqb-true x y e))))
    (λ (e : nat_eq x y ≡ false). ap (λ (t : Bool). t && true) e ∙ sym (ne_eqb a b (λ (h : a ≡ b). eqb-false x y e (g h))))

-- x / d is a / `unit` and y / c is b / `unit`, and they are in the order of a and b
module _ (x d a y c b : ℕ) (D : 0 < d) (C : 0 < c) (h : x * unit ≡ a * d) (k : y * unit ≡ b * c) where
  units_le : x * c ≤ y * d → a ≤ b
  units_le l = le_of_mul-le-mul_right (transfer a b unit unit x y d c D C (sym h) (sym k) l) unit_pos

  le_units : a ≤ b → x * c ≤ y * d
  le_units l = transfer x y d c a b unit unit unit_pos unit_pos h k (mul-le-mul_right unit l)

module _ (x y : Float) (a b : ℕ) (h : HasValue x false a unit) (k : HasValue y false b unit) where
  lt_values : lt x y ≡ nat_lt a b
  unfolding lt
  lt_values =
      at_fins (λ (x y : Float). lt x y ≡ nat_lt a b) x y a unit b unit h k (λ m n e g p q.
      ltb_like (m * up e * down g) (n * up g * down e) a b
      (units_le (n * up g) (down g) b (m * up e) (down e) a (down_pos g) (down_pos e) q p)
      (le_units (n * up g) (down g) b (m * up e) (down e) a (down_pos g) (down_pos e) q p))

  eq_values : eq x y ≡ (a == b)
  unfolding eq
  eq_values =
      at_fins (λ (x y : Float). eq x y ≡ (a == b)) x y a unit b unit h k (λ m n e g p q.
      let f = units_le (m * up e) (down e) a (n * up g) (down g) b (down_pos e) (down_pos g) p q in
      let f' = units_le (n * up g) (down g) b (m * up e) (down e) a (down_pos g) (down_pos e) q p in
      let u = le_units (m * up e) (down e) a (n * up g) (down g) b (down_pos e) (down_pos g) p q in
      let u' = le_units (n * up g) (down g) b (m * up e) (down e) a (down_pos g) (down_pos e) q p in
      eqb_like (m * up e * down g) (n * up g * down e) a b
      (λ r. le_antisymm (f (le_of_eq r)) (f' (le_of_eq (sym r))))
      (λ r. le_antisymm (u (le_of_eq r)) (u' (le_of_eq (sym r)))))

-- the bit pattern by the rank
pattern : ℕ → ℕ
pattern n = (size n - 24) * 2 ^ 23 + n / 2 ^ (size n - 24)

bits_rank : (x : Float) → T (plain x) → to_bits binary32 x ≡ pattern (rank x)
unfolding to_bits rank unit pattern
bits_rank nan t = absurd t
bits_rank (inf s) t = absurd t
bits_rank (fin true m e) t = absurd t
bits_rank (fin false m e) t = let n = m * up e * 2 ^ 149 / down e in ap (λ (z : ℕ). z + n / 2 ^ (size n - 24)) (zero-add ((size n - 24) * 2 ^ 23))

rank_back : (x : Float) → Ranked x → from_bits binary32 (pattern (rank x)) ≡ x
rank_back x r = ap (from_bits binary32) (sym (bits_rank x r.finite)) ∙ of_bits-to_bits binary32 x r.holds

module _ (x y : Float) (p : Ranked x) (q : Ranked y) where
  pub lt_rank : lt x y ≡ nat_lt (rank x) (rank y)
  lt_rank = lt_values x y (rank x) (rank y) (rank_value x p) (rank_value y q)

  -- Two values of one rank are one value.
  pub same_rank : rank x ≡ rank y → x ≡ y
  same_rank e = sym (rank_back x p) ∙ ap (λ (n : ℕ). from_bits binary32 (pattern n)) e ∙ rank_back y q

  pub eq_rank : eq x y ≡ (rank x == rank y)
  eq_rank = eq_values x y (rank x) (rank y) (rank_value x p) (rank_value y q)

-- ---- what a sorted report stands on: of two ranked values one is less than the other, or they are one value
pub lt_irreflexive : (x : Float) → Ranked x → lt x x ≡ false
lt_irreflexive x p = lt_rank x x p p ∙ le-ltb (rank x) (rank x) (omega arith)

pub lt_transitive : (x y z : Float) → Ranked x → Ranked y → Ranked z → lt x y ≡ true → lt y z ≡ true → lt x z ≡ true
lt_transitive x y z p q r h k =
    let a = ltb-true (rank x) (rank y) (sym (lt_rank x y p q) ∙ h) in
    let b = ltb-true (rank y) (rank z) (sym (lt_rank y z q r) ∙ k) in
    lt_rank x z p r ∙ lt-ltb (rank x) (rank z) (omega arith)

pub lt_total : (x y : Float) → Ranked x → Ranked y → lt x y ≡ false → lt y x ≡ false → x ≡ y
lt_total x y p q h k =
    let a = ltb-false (rank x) (rank y) (sym (lt_rank x y p q) ∙ h) in
    let b = ltb-false (rank y) (rank x) (sym (lt_rank y x q p) ∙ k) in
    same_rank x y p q (omega arith)
