-- How near an f32 is to an exact fraction, in whole numbers. lib.Ieee.Positive has a finite value's size as the fraction `num` / `den`.
use Rattle.std.specs.Prelude.{ℕ, ◌+◌, ◌-◌, ◌*◌, ◌≤◌, Bool, true, false, T}
use lib.Ieee.{Float, nan, inf, fin}
use Rattle.std.specs.Float.Ieee.Positive.{num, den}

-- Neither a NaN nor an infinity, and with the sign of a positive number: 0 or above it.
abbrev pub plain : Float → Bool
plain nan = false
plain (inf s) = false
plain (fin true m e) = false
plain (fin false m e) = true

-- | a - b |: in whole numbers one of the two differences is 0.
abbrev pub apart : ℕ → ℕ → ℕ
apart a b = (a - b) + (b - a)

-- x differs from a / c by at most one part in p of a / c: p × | x - a / c | ≤ a / c, both sides multiplied by c and by x's denominator.
pub record Within (p : ℕ) (x : Float) (a c : ℕ) : Type 0 where
  pub finite : T (plain x)
  pub close : p * apart (num x * c) (a * den x) ≤ a * den x
