-- A list whose first n are changed one by one, as a loop does it; and whether some of the first n pass a test.
use Rattle.std.specs.Prelude.{Bool, true, false, ◌||◌, ◌≡◌, length, get_or, set, take, drop, replicate}
use mathlib.Core.List.{List, [], ◌∷◌, map}
use Rattle.std.proofs.Math.Path.{refl, ap}
use Rattle.std.proofs.Common.{sym, ◌∙◌, drop_of_length-le, drop-cons, take-suc, take-suc-set, take_all}
use Prim.Native.Nat.{ℕ, zero, suc, ◌+◌, ◌<◌, ◌≤◌}
use native.Mathlib.Omega.{arith}
use Rattle.std.proofs.Math.Numerals.{add-one}

unfoldable pub each_of : {A : Type 0} → ℕ → (A → A) → List A → List A
each_of zero f xs = xs
each_of (suc n) f [] = []
each_of (suc n) f (x ∷ xs) = f x ∷ each_of n f xs

unfoldable pub some_of : {A : Type 0} → (A → Bool) → List A → Bool
some_of g [] = false
some_of g (x ∷ xs) = g x || some_of g xs

module _ {A : Type 0} (f : A → A) where
  pub each_at : (n : ℕ) (xs : List A) (d : A) → get_or (each_of n f xs) n d ≡ get_or xs n d
  unfolding each_of
  each_at zero xs d = refl
  each_at (suc n) [] d = refl
  each_at (suc n) (x ∷ xs) d = each_at n xs d

  each_more : (n : ℕ) (xs : List A) (d : A) → n < length xs → set (each_of n f xs) n (f (get_or xs n d)) ≡ each_of (suc n) f xs
  unfolding each_of
  each_more n [] d h = let z : ⊥ = omega arith in absurd z
  each_more zero (x ∷ xs) d h = refl
  each_more (suc n) (x ∷ xs) d h = ap (λ (t : List A). f x ∷ t) (each_more n xs d (omega arith))

  -- One more, by the numbers that a loop has.
  pub each_step : (n : ℕ) (xs : List A) (d : A) → n < length xs → set (each_of n f xs) n (f (get_or (each_of n f xs) n d)) ≡ each_of (n + 1) f xs
  each_step n xs d h = rw (add-one n, each_at n xs d) (each_more n xs d h)

  pub each_none : (xs : List A) → each_of 0 f xs ≡ xs
  unfolding each_of
  each_none xs = refl

  pub each_all : (n : ℕ) (xs : List A) → length xs ≤ n → each_of n f xs ≡ map f xs
  unfolding each_of
  each_all zero [] h = refl
  each_all zero (x ∷ xs) h = let z : ⊥ = omega arith in absurd z
  each_all (suc n) [] h = refl
  each_all (suc n) (x ∷ xs) h = ap (λ (t : List A). f x ∷ t) (each_all n xs (omega arith))

-- A change at one place, before or after each is read as something else.
pub map_set : {A B : Type 0} (f : A → B) (xs : List A) (i : ℕ) (x : A) → map f (set xs i x) ≡ set (map f xs) i (f x)
map_set f [] i x = refl
map_set f (y ∷ xs) zero x = refl
map_set {B = B} f (y ∷ xs) (suc i) x = ap (λ (t : List B). f y ∷ t) (map_set f xs i x)

pub map_replicate : {A B : Type 0} (f : A → B) (n : ℕ) (x : A) → map f (replicate n x) ≡ replicate n (f x)
map_replicate f zero x = refl
map_replicate {B = B} f (suc n) x = ap (λ (t : List B). f x ∷ t) (map_replicate f n x)

-- A list that takes another's entries one by one, as a loop does it: the first i are the other's.
module _ {A : Type 0} (xs ys : List A) (i : ℕ) where
  pub filled_more : (x d : A) → i < length xs → i < length ys → x ≡ get_or ys i d → take i xs ≡ take i ys → take (i + 1) (set xs i x) ≡ take (i + 1) ys
  filled_more x d h k e f = rw (add-one i, take-suc-set xs i x h, take-suc ys i d k, e, f)

  pub filled_all : length xs ≤ i → length ys ≤ i → take i xs ≡ take i ys → xs ≡ ys
  filled_all h k f = sym (take_all i xs h) ∙ f ∙ take_all i ys k

-- A search: whether some are left that pass, from the place i on.
module _ {A : Type 0} (g : A → Bool) (xs : List A) (i : ℕ) (d : A) where
  pub some_here : i < length xs → g (get_or xs i d) ≡ true → some_of g (drop i xs) ≡ true
  unfolding some_of
  some_here h e = rw (drop-cons xs i d h, e)

  pub some_next : i < length xs → g (get_or xs i d) ≡ false → some_of g (drop i xs) ≡ some_of g (drop (i + 1) xs)
  unfolding some_of
  some_next h e = rw (drop-cons xs i d h, e, add-one i)

  pub some_end : length xs ≤ i → some_of g (drop i xs) ≡ false
  unfolding some_of
  some_end h = rw (drop_of_length-le xs h)
