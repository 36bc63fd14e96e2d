-- A table's refusal is one of document 01's and 02's numbers.
use Rattle.std.specs.Prelude.{◌≡◌, ℕ, ◌≤◌, Bool, true, ◌&&◌, [], ◌∷◌, ltb}
use Rattle.std.proofs.Common.{arith, ltb-true}
use Rattle.base.specs.Both.{both_left, both_right}
use Rattle.base.specs.Choice.{cases}
use Rattle.base.specs.Refusal.{Rows, first_of}

abbrev pub listed : Rows → Bool
listed [] = true
listed (r ∷ rs) = ltb r.0 17 && listed rs

pub first_listed : (rs : Rows) → listed rs ≡ true → first_of rs ≤ 16
unfolding first_of
first_listed [] e = omega arith
first_listed (r ∷ rs) e =
    let h = ltb-true r.0 17 (both_left (ltb r.0 17) (listed rs) e) in
    let k = first_listed rs (both_right (ltb r.0 17) (listed rs) e) in
    cases _ r.1 (λ z. rw z (omega arith)) (λ z. rw z k)
