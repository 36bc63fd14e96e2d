-- Each f32 operation of the report as one `round` of an exact fraction. `HasValue x false a c` says that x is finite, not negative, and a / c.
use Rattle.std.specs.Prelude.{◌≡◌, ℕ, ◌+◌, ◌*◌, ◌^◌, ◌<◌, ◌≤◌, true, false, ℤ, refl, Float}
use Rattle.std.proofs.Common.{true≢false, sym, ap, ◌∙◌, subst, lt_of_lt_of_le, add-mul, mul-pos, mul_assoc, mul_comm, mul-one, arith, ne_eqb, lit<, lit≤, shl_lt}
use Rattle.std.proofs.Math.Nat.{mul-mul-mul_comm}
use Rattle.std.specs.Float.{nan, inf, fin, binary32}
use Rattle.std.specs.Float.Ieee.{up, down, round, of_int, add, mul, div}
use Rattle.std.specs.Float.Ieee.Back.{round_whole}
use Rattle.std.specs.Float.Ieee.Exact.{HasValue, round_exact}
use Rattle.std.specs.Float.Ieee.Fits.{down_pos}
use Rattle.std.specs.Float.Ieee.Positive.{first_pos}
use Rattle.std.specs.Float.Ieee.Scale.{round_same}
use Rattle.rate.specs.Rate.{f32}

-- ---- whole numbers that an f32 holds
pub whole_value : (n : ℕ) → n ≤ 16777216 → HasValue (f32 n) false n 1
unfolding of_int
whole_value n h = round_whole binary32 false n h

-- whole milliseconds as nanoseconds: 1,000,000 is 15,625 × 2 ^ 6
pub nano_value : (k : ℕ) → k < 1000 → HasValue (f32 (k * 1000000)) false (k * 1000000) 1
unfolding of_int
nano_value k h =
    round_exact binary32 false (k * 1000000) 1 (k * 15625) 155 (lit< tt) (small k h) (lt_of_lt_of_le (shl_lt 24 155 (small k h)) (lit≤ tt))
    (mul_assoc k 1000000 (2 ^ 149) ∙ sym (mul_assoc k 15625 (2 ^ 155)) ∙ sym (mul-one (k * 15625 * 2 ^ 155)))
  where
    small : (k : ℕ) → k < 1000 → k * 15625 < 16777216
    small k h = omega arith

pub billion_value : HasValue (f32 1000000000) false 1000000000 1
unfolding of_int
billion_value = (refl, refl)

-- ---- the operations
-- What holds of every finite value that is not negative holds of x.
pub at_fin : (P : Float → Type 0) (x : Float) (a c : ℕ) → HasValue x false a c → ((m : ℕ) (e : ℤ) → m * up e * c ≡ a * down e → P (fin false m e)) → P x
at_fin P nan a c h f = absurd h
at_fin P (inf s) a c h f = absurd h
at_fin P (fin true m e) a c h f = absurd (true≢false h.0)
at_fin P (fin false m e) a c h f = f m e h.1

pub at_fins : (P : Float → Float → Type 0) (x y : Float) (a c b d : ℕ) → HasValue x false a c → HasValue y false b d
    → ((m n : ℕ) (e g : ℤ) → m * up e * c ≡ a * down e → n * up g * d ≡ b * down g → P (fin false m e) (fin false n g)) → P x y
at_fins P x y a c b d h k f =
    at_fin (λ (z : Float). P z y) x a c h (λ (m : ℕ) (e : ℤ) (p : m * up e * c ≡ a * down e).
    at_fin (P (fin false m e)) y b d k (λ (n : ℕ) (g : ℤ) (q : n * up g * d ≡ b * down g). f m n e g p q))

add_fin : (m n : ℕ) (e g : ℤ) → add binary32 (fin false m e) (fin false n g) ≡ round binary32 false (m * up e * down g + n * up g * down e) (down e * down g)
unfolding add
add_fin m n e g = refl

mul_fin : (m n : ℕ) (e g : ℤ) → mul binary32 (fin false m e) (fin false n g) ≡ round binary32 false (m * up e * (n * up g)) (down e * down g)
unfolding mul
mul_fin m n e g = refl

div_fin : (m n : ℕ) (e g : ℤ) → 0 < n → div binary32 (fin false m e) (fin false n g) ≡ round binary32 false (m * up e * down g) (n * up g * down e)
unfolding div
div_fin m n e g h = rw (ne_eqb n 0 (omega arith))

-- p / u is a / c, also with w / w beside the one and d / d beside the other
cross : (p u a c w d : ℕ) → p * c ≡ a * u → p * w * (c * d) ≡ a * d * (u * w)
cross p u a c w d h = mul-mul-mul_comm p w c d ∙ ap (λ (z : ℕ). z * (w * d)) h ∙ ap (λ (z : ℕ). a * u * z) (mul_comm w d) ∙ mul-mul-mul_comm a u d w

-- p / u is a / c and q / w is b / d, and so are their sums, products and quotients
module _ (p u q w a c b d : ℕ) (h : p * c ≡ a * u) (k : q * d ≡ b * w) where
  cross_add : (p * w + q * u) * (c * d) ≡ (a * d + b * c) * (u * w)
  cross_add =
      let x = cross p u a c w d h in
      let y : q * u * (c * d) ≡ b * c * (u * w) = ap (λ (z : ℕ). q * u * z) (mul_comm c d) ∙ cross q w b d u c k ∙ ap (λ (z : ℕ). b * c * z) (mul_comm w u) in
      omega (arith, add-mul (p * w) (q * u) (c * d), add-mul (a * d) (b * c) (u * w))

  cross_mul : p * q * (c * d) ≡ a * b * (u * w)
  cross_mul = mul-mul-mul_comm p q c d ∙ ap (λ (z : ℕ). z * (q * d)) h ∙ ap (λ (z : ℕ). a * u * z) k ∙ mul-mul-mul_comm a u b w

  cross_div : p * w * (c * b) ≡ a * d * (q * u)
  cross_div =
      mul-mul-mul_comm p w c b
      ∙ ap (λ (z : ℕ). z * (w * b)) h
      ∙ ap (λ (z : ℕ). a * u * z) (mul_comm w b ∙ sym k ∙ mul_comm q d)
      ∙ mul-mul-mul_comm a u d q
      ∙ ap (λ (z : ℕ). a * d * z) (mul_comm u q)

module _ (x y : Float) (a c b d : ℕ) (C : 0 < c) (D : 0 < d) (h : HasValue x false a c) (k : HasValue y false b d) where
  pub add_at : add binary32 x y ≡ round binary32 false (a * d + b * c) (c * d)
  add_at =
      at_fins (λ (x y : Float). add binary32 x y ≡ round binary32 false (a * d + b * c) (c * d)) x y a c b d h k (λ m n e g p q.
      add_fin m n e g
      ∙ round_same binary32 false (m * up e * down g + n * up g * down e) (down e * down g) (a * d + b * c) (c * d) (mul-pos (down_pos e) (down_pos g)) (mul-pos C D)
      (cross_add (m * up e) (down e) (n * up g) (down g) a c b d p q))

  pub mul_at : mul binary32 x y ≡ round binary32 false (a * b) (c * d)
  mul_at =
      at_fins (λ (x y : Float). mul binary32 x y ≡ round binary32 false (a * b) (c * d)) x y a c b d h k (λ m n e g p q.
      mul_fin m n e g
      ∙ round_same binary32 false (m * up e * (n * up g)) (down e * down g) (a * b) (c * d) (mul-pos (down_pos e) (down_pos g)) (mul-pos C D)
      (cross_mul (m * up e) (down e) (n * up g) (down g) a c b d p q))

  pub div_at : 0 < b → div binary32 x y ≡ round binary32 false (a * d) (c * b)
  div_at B =
      at_fins (λ (x y : Float). div binary32 x y ≡ round binary32 false (a * d) (c * b)) x y a c b d h k (λ m n e g p q.
      let Q : 0 < n * up g = first_pos (n * up g) d (subst (λ (z : ℕ). 0 < z) (sym q) (mul-pos B (down_pos g))) in
      div_fin m n e g (first_pos n (up g) Q)
      ∙ round_same binary32 false (m * up e * down g) (n * up g * down e) (a * d) (c * b) (mul-pos Q (down_pos e)) (mul-pos C B)
      (cross_div (m * up e) (down e) (n * up g) (down g) a c b d p q))
