-- A search from the front, for the place of the first that passes a test; the length where none does.
use Rattle.std.specs.Prelude.{Bool, true, false, List, [], ◌∷◌, ◌≡◌, ℕ, suc, ◌+◌, ◌<◌, ◌≤◌, length, get_or, drop}
use Rattle.std.proofs.Common.{arith, add-one, drop_of_length-le, drop-cons}
use Rattle.base.specs.Choice.{pick, cases}

-- A function is such a search by two equations, which its definition has by `refl`.
pub record Search {A : Type 0} (test : A → Bool) (place : List A → ℕ) : Type 0 where
  pub none : place [] ≡ 0
  pub turn : (x : A) (xs : List A) → place (x ∷ xs) ≡ pick (test x) 0 (suc (place xs))

-- What is left of it at place i.
abbrev pub Sought : {A : Type 0} {test : A → Bool} {place : List A → ℕ} → Search test place → List A → ℕ → Type 0
Sought {place = place} s xs i = place xs ≡ i + place (drop i xs)

module _ {A : Type 0} {test : A → Bool} {place : List A → ℕ} (s : Search test place) where
  pub search_le : (xs : List A) → place xs ≤ length xs
  search_le [] = omega (arith, s.none)
  search_le (x ∷ xs) = rw (s.turn x xs) (cases _ (test x) (λ e. rw e (omega arith)) (λ e. rw e (omega (arith, search_le xs))))

  module _ (xs : List A) (i : ℕ) where
    pub sought_here : (d : A) → i < length xs → test (get_or xs i d) ≡ true → Sought s xs i → i ≡ place xs
    sought_here d h e f = let a = rw (drop-cons xs i d h, s.turn, e) at f in omega arith

    pub sought_next : (d : A) → i < length xs → test (get_or xs i d) ≡ false → Sought s xs i → Sought s xs (i + 1)
    sought_next d h e f = let a = rw (drop-cons xs i d h, s.turn, e) at f in rw add-one (omega arith)

    pub sought_end : length xs ≤ i → Sought s xs i → i ≡ place xs
    sought_end h f = let a = rw (drop_of_length-le xs h, s.none) at f in omega arith
