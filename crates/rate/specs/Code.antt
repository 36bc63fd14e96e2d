-- What the code's steps are in the words of the definitions: its literals, which the logic has by their bit patterns, its casts, and the two cases of the hit rate.
use Rattle.std.specs.Prelude.{◌≡◌, ℕ, ◌+◌, ◌≤◌, min, T, pos, ◌≢◌, refl}
use Rattle.std.proofs.Common.{le→leb}
use borrow.Author.Tests.{eq-eqb, ne_eqb}
use Rattle.std.specs.Float.{binary32}
use Rattle.std.specs.Float.Ieee.{of_bits, of_int, in_float, mul, div}
use Rattle.rate.specs.Rate.{f32, most_counted, hit_rate_of}

pub literal_0 : of_bits binary32 0 ≡ f32 0
unfolding of_bits of_int
literal_0 = refl

pub literal_100 : of_bits binary32 1120403456 ≡ f32 100
unfolding of_bits of_int
literal_100 = refl

pub literal_1e9 : of_bits binary32 1315859240 ≡ f32 1000000000
unfolding of_bits of_int
literal_1e9 = refl

pub cast_exact : (n : ℕ) → n ≤ 16777216 → T (in_float binary32 (pos n))
unfolding in_float
cast_exact n h = le→leb n 16777216 h

-- The two cases of the hit rate, for the capped numbers that the code has in hand.
module _ (hits misses found total : ℕ) (f : found ≡ min hits most_counted) (t : total ≡ min (hits + misses) most_counted) where
  pub hit_none : total ≡ 0 → hit_rate_of hits misses ≡ f32 0
  unfolding hit_rate_of
  hit_none e = rw (← f, ← t, eq-eqb total 0 e)

  pub hit_some : (total ≢ 0) → hit_rate_of hits misses ≡ div binary32 (mul binary32 (f32 100) (f32 found)) (f32 total)
  unfolding hit_rate_of
  hit_some e = rw (← f, ← t, ne_eqb total 0 e)
