-- A call's refusal, written as document 01's table is: rows of a number and its condition, the numbers rising.
use Rattle.std.specs.Prelude.{Bool, true, false, ◌&&◌, List, [], ◌∷◌, ◌++◌, ◌≡◌, refl, ℕ, ltb}
use Rattle.std.proofs.Common.{arith, ltb-true}
use Rattle.base.specs.Both.{both_left, both_right}
use Rattle.base.specs.Choice.{pick, cases}

abbrev pub Rows : Type 0
Rows = List (ℕ × Bool)

-- The number of the first row whose condition holds, which is the lowest; 0 where none holds.
unfoldable pub first_of : Rows → ℕ
first_of [] = 0
first_of (r ∷ rs) = pick r.1 r.0 (first_of rs)

module _ (n : ℕ) (b : Bool) (rs : Rows) where
  pub first_here : b ≡ true → first_of ((n, b) ∷ rs) ≡ n
  unfolding first_of
  first_here e = rw e

  pub first_next : b ≡ false → first_of ((n, b) ∷ rs) ≡ first_of rs
  unfolding first_of
  first_next e = rw e

  -- A call that no row refuses: its conditions do not hold.
  pub not_here : (n ≡ 0 → ⊥) → first_of ((n, b) ∷ rs) ≡ 0 → b ≡ false
  unfolding first_of
  not_here k h = cases _ b (λ e. absurd (k (rw e at h))) (λ e. e)

  pub not_next : (n ≡ 0 → ⊥) → first_of ((n, b) ∷ rs) ≡ 0 → first_of rs ≡ 0
  unfolding first_of
  not_next k h = cases _ b (λ e. absurd (k (rw e at h))) (λ e. rw e at h)

pub first_none : first_of [] ≡ 0
unfolding first_of
first_none = refl

-- Where one of the rows in front holds, those behind do not matter.
pub first_among : (rs qs : Rows) → (first_of rs ≡ 0 → ⊥) → first_of (rs ++ qs) ≡ first_of rs
unfolding first_of
first_among [] qs h = absurd (h first_none)
first_among (r ∷ rs) qs h = cases _ r.1 (λ e. rw e) (λ e. rw e (first_among rs qs (rw e at h)))

-- A table whose numbers are above 0, as every refusal's is: where none of the rows in front holds, those behind decide.
abbrev pub numbered : Rows → Bool
numbered [] = true
numbered (r ∷ rs) = ltb 0 r.0 && numbered rs

pub first_past : (rs qs : Rows) → numbered rs ≡ true → first_of rs ≡ 0 → first_of (rs ++ qs) ≡ first_of qs
unfolding first_of
first_past [] qs n h = refl
first_past (r ∷ rs) qs n h = cases _ r.1
    (λ e. let k = ltb-true 0 r.0 (both_left (ltb 0 r.0) (numbered rs) n) in let z : r.0 ≡ 0 = (rw e at h) in absurd (omega arith))
    (λ e. rw e (first_past rs qs (both_right (ltb 0 r.0) (numbered rs) n) (rw e at h)))

pub none_among : (rs qs : Rows) → numbered rs ≡ true → first_of (rs ++ qs) ≡ 0 → first_of rs ≡ 0
unfolding first_of
none_among [] qs n h = refl
none_among (r ∷ rs) qs n h = cases _ r.1
    (λ e. let k = ltb-true 0 r.0 (both_left (ltb 0 r.0) (numbered rs) n) in let z : r.0 ≡ 0 = (rw e at h) in absurd (omega arith))
    (λ e. rw e (none_among rs qs (both_right (ltb 0 r.0) (numbered rs) n) (rw e at h)))
