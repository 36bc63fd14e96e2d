-- Letters and hex digits in ASCII: `0` is 48, `9` 57, `A` 65, `F` 70, `a` 97, `f` 102, `z` 122.
use Rattle.std.specs.Prelude.{Bool, true, false, ◌&&◌, ◌≡◌, ℕ, ◌+◌, ◌-◌, ◌%◌, ◌≤◌, ◌<◌, leb, ltb, nat_lt, Option, Some, None, unwrap_or}
use Rattle.std.specs.Char.{to_ascii_uppercase}
use Rattle.std.proofs.Common.{arith, ap, sym, ◌∙◌, leb-true, le-leb, ltb-true, ltb-false}
use Rattle.std.proofs.lemmas.Option.{none-some}
use Rattle.base.specs.Choice.{pick, cases, false_true}

unfoldable pub between : ℕ → ℕ → ℕ → Bool
between low b high = leb low b && leb b high

-- A letter in upper case; any other byte as it is.
unfoldable pub upper : ℕ → ℕ
upper b = pick (between 97 b 122) (b - 32) b

-- The value of a hex digit in either letter case; 16 for any other byte.
unfoldable pub hex_value : ℕ → ℕ
hex_value b =
    pick (between 48 b 57) (b - 48)
    (pick (between 65 b 70) (b - 65 + 10)
    (pick (between 97 b 102) (b - 97 + 10) 16))

-- The same, but none for any other byte.
unfoldable pub hex_of : ℕ → Option ℕ
hex_of b = pick (ltb (hex_value b) 16) (Some (hex_value b)) None

-- The digit of the last four bits, in upper case.
unfoldable pub hex_digit : ℕ → ℕ
hex_digit n = pick (ltb (n % 16) 10) (48 + n % 16) (65 + (n % 16 - 10))

-- What a test of `between` tells.
module _ (low b high : ℕ) where
  pub between_low : between low b high ≡ true → low ≤ b
  unfolding between
  between_low e = cases _ (leb low b) (λ t. leb-true low b t) (λ t. false_true (rw t at e))

  within : low ≤ b → b ≤ high → between low b high ≡ true
  unfolding between
  within h k = rw (le-leb low b h, le-leb b high k)

  outside : (low ≤ b → b ≤ high → ⊥) → between low b high ≡ false
  unfolding between
  outside h =
      cases _ (leb low b)
      (λ t. cases _ (leb b high) (λ u. absurd (h (leb-true low b t) (leb-true b high u))) (λ u. rw (t, u)))
      (λ t. rw t)

-- A letter in upper case, as the library has it.
pub upper_is : (b : ℕ) → to_ascii_uppercase b ≡ upper b
unfolding upper
upper_is b =
    cases _ (nat_lt b 97)
    (λ e. let l = ltb-true b 97 e in rw (e, outside 97 b 122 (λ h k. omega arith)))
    (λ e. let l = ltb-false b 97 e in
    cases _ (nat_lt b 123)
    (λ f. let m = ltb-true b 123 f in rw (e, f, within 97 b 122 (omega arith) (omega arith)))
    (λ f. let m = ltb-false b 123 f in rw (e, f, outside 97 b 122 (λ h k. omega arith))))

-- What is known of a digit that was read, and of a byte that is none.
module _ (b : ℕ) (r : Option ℕ) (e : r ≡ hex_of b) where
  pub hex_some : (v : ℕ) → r ≡ Some v → (hex_value b ≡ v) × (v < 16)
  unfolding hex_of
  hex_some v f =
      cases _ (ltb (hex_value b) 16)
      (λ t. let g : Some v ≡ Some (hex_value b) = sym f ∙ rw t at e in
      let v-is : v ≡ hex_value b = ap (λ (o : Option ℕ). unwrap_or o 0) g in
      (sym v-is, rw (← v-is) at (ltb-true (hex_value b) 16 t)))
      (λ t. let g : Some v ≡ None = sym f ∙ rw t at e in absurd (none-some v (sym g)))

  pub hex_none : r ≡ None → ltb (hex_value b) 16 ≡ false
  unfolding hex_of
  hex_none f =
      cases _ (ltb (hex_value b) 16)
      (λ t. let g : None ≡ Some (hex_value b) = sym f ∙ rw t at e in absurd (none-some (hex_value b) g))
      (λ t. t)
