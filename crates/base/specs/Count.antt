-- A count of 32 bits, which stops at the largest number that it holds.
use Rattle.std.specs.Prelude.{◌≡◌, ℕ, ◌+◌, min, ltb}
use Rattle.std.proofs.Common.{arith, ltb-true, ltb-false}
use Rattle.base.specs.Choice.{pick, cases}

abbrev pub most : ℕ
most = 4294967295

unfoldable pub more_of : ℕ → ℕ
more_of n = pick (ltb n most) (n + 1) most

pub more_is : (n : ℕ) → more_of n ≡ min (n + 1) most
unfolding more_of
more_is n = cases _ (ltb n most) (λ e. rw e (omega (arith, ltb-true n most e))) (λ e. rw e (omega (arith, ltb-false n most e)))
