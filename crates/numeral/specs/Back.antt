-- What is written is read back: the text of a number of 64 bits is that number.
use Rattle.std.specs.Prelude.{List, [], ◌∷◌, ◌≡◌, ℕ, zero, suc, ◌+◌, ◌-◌, ◌*◌, ◌/◌, ◌%◌, ◌<◌, ◌≤◌, ltb, length, Some}
use Rattle.std.proofs.Common.{◌∙◌, arith, le-leb, ltb-true}
use Rattle.ascii.specs.Chars.{between}
use Rattle.base.specs.Choice.{cases}
use Rattle.numeral.specs.Decimal.{number_from, number_of, digits_onto, decimal_text}
use Rattle.numeral.specs.Laws.{number_some}

-- the first number that has more than so many digits
ten : ℕ → ℕ
ten zero = 1
ten (suc k) = 10 * ten k

-- a digit more
digit_read : (max v n : ℕ) (t : List ℕ) → number_from max v ((48 + n % 10) ∷ t) ≡ number_from max (v * 10 + n % 10) t
unfolding number_from between
digit_read max v n t =
    let z : 48 + n % 10 - 48 ≡ n % 10 = omega arith in
    rw (le-leb 48 (48 + n % 10) (omega arith), le-leb (48 + n % 10) 57 (omega arith), z)

digits_read : (max k n : ℕ) (t : List ℕ) → n < ten k → number_from max 0 (digits_onto k n t) ≡ number_from max n t
unfolding digits_onto ten
digits_read max zero n t h = let z : n ≡ 0 = omega arith in rw z
digits_read max (suc k) n t h =
    cases _ (ltb n 10)
    (λ e. let l = ltb-true n 10 e in
    let z : 0 * 10 + n % 10 ≡ n = omega arith in
    rw e (rw z at (digit_read max 0 n t)))
    (λ e. let z : n / 10 * 10 + n % 10 ≡ n = omega arith in
    rw e (digits_read max k (n / 10) ((48 + n % 10) ∷ t) (omega arith) ∙ rw z at (digit_read max (n / 10) n t)))

longer : (k n : ℕ) (t : List ℕ) → length t ≤ length (digits_onto k n t)
unfolding digits_onto
longer zero n t = omega arith
longer (suc k) n t = cases _ (ltb n 10) (λ e. rw e (omega arith)) (λ e. rw e (omega (arith, longer k (n / 10) ((48 + n % 10) ∷ t))))

some : (n : ℕ) → length (decimal_text n) ≡ 0 → ⊥
unfolding decimal_text digits_onto
some n e =
    cases _ (ltb n 10)
    (λ f. let z = rw f at e in omega arith)
    (λ f. let z = rw f at e in omega (arith, longer 19 (n / 10) ((48 + n % 10) ∷ [])))

pub read_back : (max n : ℕ) → n ≤ max → n < 18446744073709551616 → number_of max (decimal_text n) ≡ Some n
unfolding decimal_text ten number_from
read_back max n h k = number_some max (decimal_text n) (some n) ∙ digits_read max 20 n [] (omega arith) ∙ rw (le-leb n max h)
