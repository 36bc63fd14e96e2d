-- How often a number stands in a list. Membership and "none twice" are both said by it.
use Rattle.std.specs.Prelude.{List, [], ◌∷◌, ◌++◌, ◌≡◌, ℕ, zero, suc, ◌+◌, ◌<◌, eqb, length, get_or, set}
use Rattle.std.proofs.Common.{arith}
use Rattle.base.specs.Choice.{one}

unfoldable pub times : ℕ → List ℕ → ℕ
times q [] = 0
times q (x ∷ xs) = one (eqb x q) + times q xs

pub times_append : (q : ℕ) (xs ys : List ℕ) → times q (xs ++ ys) ≡ times q xs + times q ys
unfolding times
times_append q [] ys = omega arith
times_append q (x ∷ xs) ys = omega (arith, times_append q xs ys)

-- A place written anew: what stood there is gone, and what is written has come.
pub times_set : (q : ℕ) (xs : List ℕ) (i v : ℕ) → i < length xs → times q (set xs i v) + one (eqb (get_or xs i 0) q) ≡ times q xs + one (eqb v q)
unfolding times
times_set q [] i v h = omega arith
times_set q (x ∷ xs) zero v h = omega arith
times_set q (x ∷ xs) (suc i) v h = omega (arith, times_set q xs i v (omega arith))
