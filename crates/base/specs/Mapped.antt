-- An array made of another one by `map`: each of its elements is what the closure gives of that of the other.
use Rattle.std.specs.Prelude.{List, [], ◌∷◌, map, ◌≡◌, refl, ℕ, suc, ◌<◌, length, get_or}
use Rattle.std.proofs.Common.{ap, sym, ◌∙◌, arith}
use Rattle.std.specs.Array.{IsMapOf}
use Rattle.std.specs.Fn.{Called}
use denote.Param.Members.{Mut}

module _ {A B C : Type 0} (u : B → C) (h : A → C) (d : A) (e : B) where
  each_is : (xs : List A) (ys : List B) → length ys ≡ length xs → ((i : ℕ) → i < length xs → u (get_or ys i e) ≡ h (get_or xs i d)) → map u ys ≡ map h xs
  each_is [] [] l f = refl
  each_is [] (y ∷ ys) l f = absurd (omega arith)
  each_is (x ∷ xs) [] l f = absurd (omega arith)
  each_is (x ∷ xs) (y ∷ ys) l f =
      let first : u y ≡ h x = f 0 (omega arith) in
      let rest = each_is xs ys (omega arith) (λ i k. f (suc i) (omega arith)) in
      rw (first, rest)

  both_read : {F : Type 0} {g : Mut F (A × Unit {0}) B} {f : F} (xs : List A) (ys : List B) (n : ℕ) → length xs ≡ n
      → IsMapOf g f xs ys n → ((p q : F) (x : A) (y : B) → Called g p (x, tt) y q → u y ≡ h x) → map u ys ≡ map h xs
  both_read xs ys n l m k =
      let a = m.long in
      each_is xs ys (omega arith) (λ i b. let c = m.at i d e (omega arith) in k c.0 c.1 _ _ c.2)

same : {A : Type 0} (xs : List A) → map (λ (x : A). x) xs ≡ xs
same [] = refl
same {A = A} (x ∷ xs) = ap (λ (t : List A). x ∷ t) (same xs)

module _ {F A B : Type 0} {g : Mut F (A × Unit {0}) B} {f : F} where
  -- The closure gives h of an element.
  pub mapped : (h : A → B) (d : A) (e : B) (xs : List A) (ys : List B) (n : ℕ) → length xs ≡ n
      → IsMapOf g f xs ys n → ((p q : F) (x : A) (y : B) → Called g p (x, tt) y q → y ≡ h x) → ys ≡ map h xs
  mapped h d e xs ys n l m k = sym (same ys) ∙ both_read (λ (y : B). y) h d e xs ys n l m k

  -- What the closure gives is read as the element that it was given.
  pub mapped_back : (u : B → A) (d : A) (e : B) (xs : List A) (ys : List B) (n : ℕ) → length xs ≡ n
      → IsMapOf g f xs ys n → ((p q : F) (x : A) (y : B) → Called g p (x, tt) y q → u y ≡ x) → map u ys ≡ xs
  mapped_back u d e xs ys n l m k = both_read u (λ (x : A). x) d e xs ys n l m k ∙ same xs
