-- A number's digits, spelled in memory of their own.
use Rattle.std.specs.Prelude.{List, [], ◌∷◌, ◌≡◌, ℕ, zero, suc, ◌+◌, ◌/◌, ◌%◌, ◌≤◌, ltb, length, take}
use Rattle.std.proofs.Common.{◌∙◌, arith}
use Rattle.base.specs.Choice.{cases}
use Rattle.base.specs.Write.{take_over}
use Rattle.numeral.specs.Decimal.{digits_onto, decimal_text}
use Rattle.text.specs.Put.{put_of, put_end, put_fits, end_fits}

onto_short : (k n : ℕ) (t : List ℕ) → length (digits_onto k n t) ≤ k + length t
unfolding digits_onto
onto_short zero n t = omega arith
onto_short (suc k) n t =
    cases _ (ltb n 10)
    (λ e. rw e (omega arith))
    (λ e. rw e (omega (arith, onto_short k (n / 10) ((48 + n % 10) ∷ t))))

pub decimal_short : (n : ℕ) → length (decimal_text n) ≤ 20
unfolding decimal_text
decimal_short n = onto_short 20 n []

-- What `numeral::put` leaves of memory with room for 20 digits.
module _ (d : List ℕ) (n r : ℕ) (out : List ℕ) (room : length d ≡ 20) (e : r ≡ put_end d 0 (decimal_text n)) (f : out ≡ put_of d 0 (decimal_text n)) where
  fits : 0 + length (decimal_text n) ≤ length d
  fits = omega (arith, decimal_short n)

  pub spelled_end : r ≤ 20
  spelled_end = omega (arith, decimal_short n, e ∙ end_fits d 0 (decimal_text n) fits)

  pub spelled : take r out ≡ decimal_text n
  spelled = rw (e, f, end_fits d 0 (decimal_text n) fits, put_fits d 0 (decimal_text n) fits) (take_over d 0 (decimal_text n) fits)
