-- Decimal numbers as text: history-format.md, "Numbers are decimal, without sign .. Leading zeros are taken."
-- 48 is the digit `0`, 57 is `9`.
use Rattle.std.specs.Prelude.{List, [], ◌∷◌, ℕ, zero, suc, ◌+◌, ◌-◌, ◌*◌, ◌/◌, ◌%◌, eqb, leb, ltb, length, Option, Some, None}
use Rattle.ascii.specs.Chars.{between}
use Rattle.base.specs.Choice.{pick}

-- The number whose digits up to here have the value v, and whose other digits are given. Any byte that is no
-- digit makes it bad, and so does a value above max, the largest that the number's field takes.
unfoldable pub number_from : ℕ → ℕ → List ℕ → Option ℕ
number_from max v [] = pick (leb v max) (Some v) None
number_from max v (b ∷ bs) = pick (between 48 b 57) (number_from max (v * 10 + (b - 48)) bs) None

-- A number has at least one digit.
unfoldable pub number_of : ℕ → List ℕ → Option ℕ
number_of max s = pick (eqb (length s) 0) None (number_from max 0 s)

-- At most so many digits of n, without leading zeros, in front of a text.
unfoldable pub digits_onto : ℕ → ℕ → List ℕ → List ℕ
digits_onto zero n text = text
digits_onto (suc places) n text = pick (ltb n 10) ((48 + n % 10) ∷ text) (digits_onto places (n / 10) ((48 + n % 10) ∷ text))

-- The text of a number. No number of 64 bits has more than 20 digits.
unfoldable pub decimal_text : ℕ → List ℕ
decimal_text n = digits_onto 20 n []
