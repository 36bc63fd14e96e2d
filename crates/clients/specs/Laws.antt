-- Laws of the definitions of `Rules`: finding a client by its number, before and after a change.
use Rattle.std.specs.Prelude.{Some, Bool, ◌&&◌, ◌||◌, not, ◌≡◌, length, set, get_or, replicate}
use Rattle.std.proofs.Math.Bool.{true, false, or-false, or-true, and-true, and-false}
use mathlib.Core.List.{List, [], ◌∷◌, map}
use Rattle.std.proofs.Math.Path.{refl, sym}
use Rattle.std.proofs.Common.{ap, ◌∙◌}
use Prim.Native.Nat.{ℕ, zero, suc, ◌<◌, ◌≤◌}
use native.Mathlib.Omega.{arith}
use Rattle.std.proofs.Math.Dec.{eqb}
use Rattle.std.proofs.Math.ListN.{length-set}
use Rattle.std.proofs.Math.Seq.{get_or-set_same, get_or-set_other}
use borrow.Author.Tests.{ltb-true, eqb-true, eqb-false, lt-ltb, le-ltb, eq-eqb, ne_eqb}
use Rattle.base.specs.Both.{never}
use Rattle.base.specs.Choice.{pick, cases}
use Rattle.base.specs.Search.{Search, search_le}
use Rattle.base.specs.Times.{times}
use Rattle.clients.specs.Rules.{places, idle, nobody, newcomer, place_of, marked_of, taken_of, waiting_of, idled_of, find_of, registered_of, seat_of, numbers_of, fresh_in}
use Rattle.clients.specs.declared.Client.{Client}

pub number_search : (c : ℕ) → Search (λ x. eqb x.number c) (λ xs. place_of xs c)
unfolding place_of
number_search c = record { none = refl; turn = λ x xs. refl }

pub place_le : (xs : List Client) (c : ℕ) → place_of xs c ≤ length xs
place_le xs c = search_le (number_search c) xs

-- What stands at a number's place is the client that is found.
pub find_at : (xs : List Client) (c : ℕ) → get_or xs (place_of xs c) nobody ≡ find_of xs c
unfolding place_of find_of
find_at [] c = refl
find_at (x ∷ xs) c = cases _ (eqb x.number c) (λ e. rw e) (λ e. rw e (find_at xs c))

pub found_number : (xs : List Client) (c : ℕ) → place_of xs c < length xs → (find_of xs c).number ≡ c
unfolding place_of find_of
found_number [] c h = let z : ⊥ = omega arith in absurd z
found_number (x ∷ xs) c h = cases _ (eqb x.number c)
    (λ e. rw e (eqb-true x.number c e))
    (λ e. rw e (found_number xs c (let a = rw e at h in omega arith)))

-- Another client in the place of c: found by its own number, if no other has it; the others are found as before.
module _ (c d : ℕ) (y : Client) where
  pub find_put_same : (xs : List Client) → place_of xs c < length xs → y.number ≡ c → find_of (set xs (place_of xs c) y) c ≡ y
  unfolding place_of find_of
  find_put_same [] h e = let z : ⊥ = omega arith in absurd z
  find_put_same (x ∷ xs) h e = cases _ (eqb x.number c)
      (λ f. rw (f, eq-eqb y.number c e))
      (λ f. rw (f, f) (find_put_same xs (let a = rw f at h in omega arith) e))

  pub find_put_new : (xs : List Client) → place_of xs c < length xs → y.number ≡ d → length xs ≤ place_of xs d → find_of (set xs (place_of xs c) y) d ≡ y
  unfolding place_of find_of
  find_put_new [] h e k = let z : ⊥ = omega arith in absurd z
  find_put_new (x ∷ xs) h e k = cases _ (eqb x.number c)
      (λ f. rw (f, eq-eqb y.number d e))
      (λ f. cases _ (eqb x.number d)
      (λ g. let z : ⊥ = (let a = rw g at k in omega arith) in absurd z)
      (λ g. rw (f, g) (find_put_new xs (let a = rw f at h in omega arith) e (let a = rw g at k in omega arith))))

  pub find_put_other : (xs : List Client) → (d ≡ c → ⊥) → (y.number ≡ d → ⊥) → find_of (set xs (place_of xs c) y) d ≡ find_of xs d
  unfolding place_of find_of
  find_put_other [] h e = refl
  find_put_other (x ∷ xs) h e = cases _ (eqb x.number c)
      (λ f. let n = eqb-true x.number c f in rw (f, ne_eqb y.number d e, ne_eqb x.number d (λ g. h (sym g ∙ n))))
      (λ f. rw f (ap (λ (t : Client). pick (eqb x.number d) x t) (find_put_other xs h e)))

  pub place_put_other : (xs : List Client) → (d ≡ c → ⊥) → (y.number ≡ d → ⊥) → place_of (set xs (place_of xs c) y) d ≡ place_of xs d
  unfolding place_of
  place_put_other [] h e = refl
  place_put_other (x ∷ xs) h e = cases _ (eqb x.number c)
      (λ f. let n = eqb-true x.number c f in rw (f, ne_eqb y.number d e, ne_eqb x.number d (λ g. h (sym g ∙ n))))
      (λ f. rw f (ap (λ (t : ℕ). pick (eqb x.number d) 0 (suc t)) (place_put_other xs h e)))

  pub place_put_same : (xs : List Client) → y.number ≡ c → place_of (set xs (place_of xs c) y) c ≡ place_of xs c
  unfolding place_of
  place_put_same [] e = refl
  place_put_same (x ∷ xs) e = cases _ (eqb x.number c)
      (λ f. rw (f, eq-eqb y.number c e))
      (λ f. rw (f, f) (ap suc (place_put_same xs e)))

-- A change that leaves each number as it is.
module _ (f : Client → Client) (same : (x : Client) → (f x).number ≡ x.number) where
  pub place_map : (xs : List Client) (c : ℕ) → place_of (map f xs) c ≡ place_of xs c
  unfolding place_of
  place_map [] c = refl
  place_map (x ∷ xs) c = rw (same x, place_map xs c)

  pub find_map : f nobody ≡ nobody → (xs : List Client) (c : ℕ) → find_of (map f xs) c ≡ f (find_of xs c)
  unfolding find_of
  find_map e [] c = sym e
  find_map e (x ∷ xs) c = cases _ (eqb x.number c)
      (λ g. rw (ap (λ (n : ℕ). eqb n c) (same x) ∙ g, g))
      (λ g. rw (ap (λ (n : ℕ). eqb n c) (same x) ∙ g, g) (find_map e xs c))

  pub numbers_map : (xs : List Client) → numbers_of (map f xs) ≡ numbers_of xs
  unfolding numbers_of
  numbers_map [] = refl
  numbers_map (x ∷ xs) = rw (same x, numbers_map xs)

pub numbers_set : (xs : List Client) (i : ℕ) (y : Client) → numbers_of (set xs i y) ≡ set (numbers_of xs) i y.number
unfolding numbers_of
numbers_set [] i y = refl
numbers_set (x ∷ xs) zero y = refl
numbers_set (x ∷ xs) (suc i) y = ap (λ (t : List ℕ). x.number ∷ t) (numbers_set xs i y)

pub numbers_at : (xs : List Client) (i : ℕ) → get_or (numbers_of xs) i 0 ≡ (get_or xs i nobody).number
unfolding numbers_of
numbers_at [] i = refl
numbers_at (x ∷ xs) zero = refl
numbers_at (x ∷ xs) (suc i) = numbers_at xs i

pub numbers_length : (xs : List Client) → length (numbers_of xs) ≡ length xs
unfolding numbers_of
numbers_length [] = refl
numbers_length (x ∷ xs) = ap suc (numbers_length xs)

-- A number that no place has is not found, and one that is not found no place has.
pub absent_place : (xs : List Client) (c : ℕ) → times c (numbers_of xs) ≡ 0 → length xs ≤ place_of xs c
unfolding place_of numbers_of times
absent_place [] c h = omega arith
absent_place (x ∷ xs) c h = cases _ (eqb x.number c)
    (λ e. let a = rw e at h in omega arith)
    (λ e. let a = rw e at h in rw e (omega (arith, absent_place xs c (omega arith))))

pub place_absent : (xs : List Client) (c : ℕ) → length xs ≤ place_of xs c → times c (numbers_of xs) ≡ 0
unfolding place_of numbers_of times
place_absent [] c h = refl
place_absent (x ∷ xs) c h = cases _ (eqb x.number c)
    (λ e. let a = rw e at h in omega arith)
    (λ e. let a = rw e at h in rw e (omega (arith, place_absent xs c (omega arith))))

pub place_present : (xs : List Client) (c : ℕ) → place_of xs c < length xs → 0 < times c (numbers_of xs)
unfolding place_of numbers_of times
place_present [] c h = omega arith
place_present (x ∷ xs) c h = cases _ (eqb x.number c)
    (λ e. rw e (omega arith))
    (λ e. let a = rw e at h in rw e (omega (arith, place_present xs c (omega arith))))

cleared : (l : List Bool) (i : ℕ) → get_or (set l i false) i false ≡ false
cleared [] i = refl
cleared (x ∷ l) zero = refl
cleared (x ∷ l) (suc i) = cleared l i

-- The fresh marks after a change.
module _ (x : Client) (p q : ℕ) where
  pub marked_fresh : ((x.number ≡ 0 → ⊥) → p < length x.fresh) → fresh_in (marked_of p x) q ≡ (fresh_in x q || (not (eqb x.number 0) && eqb p q))
  unfolding marked_of fresh_in
  marked_fresh h = cases _ (eqb x.number 0)
      (λ e. rw (e, or-false))
      (λ e. rw e (cases _ (eqb p q)
      (λ f. rw (f, or-true, ← eqb-true p q f, get_or-set_same x.fresh p true false (h (eqb-false x.number 0 e))))
      (λ f. rw (f, or-false, get_or-set_other x.fresh p q true false (λ g. eqb-false p q f (sym g))))))

  pub taken_fresh : fresh_in (taken_of p x) q ≡ (fresh_in x q && not (eqb p q))
  unfolding taken_of fresh_in
  taken_fresh = cases _ (eqb p q)
      (λ f. rw (f, and-false, ← eqb-true p q f, cleared x.fresh p))
      (λ f. rw (f, and-true, get_or-set_other x.fresh p q false false (λ g. eqb-false p q f (sym g))))

pub marked_number : (p : ℕ) (x : Client) → (marked_of p x).number ≡ x.number
unfolding marked_of
marked_number p x = cases _ (eqb x.number 0) (λ e. rw e) (λ e. rw e)

pub marked_wait : (p : ℕ) (x : Client) → (marked_of p x).wait ≡ x.wait
unfolding marked_of
marked_wait p x = cases _ (eqb x.number 0) (λ e. rw e) (λ e. rw e)

pub marked_long : (p : ℕ) (x : Client) → length (marked_of p x).fresh ≡ length x.fresh
unfolding marked_of
marked_long p x = cases _ (eqb x.number 0) (λ e. rw e) (λ e. rw e (simp length-set))

pub marked_nobody : (p : ℕ) → marked_of p nobody ≡ nobody
unfolding marked_of
marked_nobody p = refl

-- A number with a seat is registered, and one without is not.
module _ (xs : List Client) (c : ℕ) where
  pub seat_registered : seat_of xs c < places → registered_of xs c ≡ true
  unfolding seat_of registered_of
  seat_registered h = cases _ (eqb c 0)
      (λ e. let z : ⊥ = (let a = rw e at h in omega arith) in absurd z)
      (λ e. rw (e, lt-ltb (place_of xs c) places (rw e at h)))

  pub seat_place : seat_of xs c < places → seat_of xs c ≡ place_of xs c
  unfolding seat_of
  seat_place h = cases _ (eqb c 0)
      (λ e. let z : ⊥ = (let a = rw e at h in omega arith) in absurd z)
      (λ e. rw e)

  pub seat_none : places ≤ seat_of xs c → registered_of xs c ≡ false
  unfolding seat_of registered_of
  seat_none h = cases _ (eqb c 0)
      (λ e. rw e)
      (λ e. rw (e, le-ltb (place_of xs c) places (rw e at h)))

  pub registered_place : registered_of xs c ≡ true → place_of xs c < places
  unfolding registered_of
  registered_place h = cases _ (eqb c 0)
      (λ e. never false (rw e at h) refl)
      (λ e. ltb-true (place_of xs c) places (rw e at h))

  pub registered_some : registered_of xs c ≡ true → c ≡ 0 → ⊥
  unfolding registered_of
  registered_some h e = never false (rw (eq-eqb c 0 e) at h) refl

-- A client that has just come.
cleared_all : (n p : ℕ) → get_or (replicate n false) p false ≡ false
cleared_all zero p = refl
cleared_all (suc n) zero = refl
cleared_all (suc n) (suc p) = cleared_all n p

module _ (n : ℕ) where
  pub newcomer_number : (newcomer n).number ≡ n
  unfolding newcomer
  newcomer_number = refl

  pub newcomer_wait : (newcomer n).wait ≡ idle
  unfolding newcomer
  newcomer_wait = refl

  pub newcomer_fresh : (p : ℕ) → fresh_in (newcomer n) p ≡ false
  unfolding newcomer fresh_in
  newcomer_fresh p = cleared_all 256 p

  pub newcomer_long : length (newcomer n).fresh ≡ 256
  unfolding newcomer
  newcomer_long = refl

-- What the other changes leave as it was.
module _ (p t : ℕ) (x : Client) where
  pub taken_number : (taken_of p x).number ≡ x.number
  unfolding taken_of
  taken_number = refl

  pub taken_wait : (taken_of p x).wait ≡ x.wait
  unfolding taken_of
  taken_wait = refl

  pub taken_long : length (taken_of p x).fresh ≡ length x.fresh
  unfolding taken_of
  taken_long = simp length-set

  pub waiting_number : (waiting_of p t x).number ≡ x.number
  unfolding waiting_of
  waiting_number = refl

  pub waiting_wait : (waiting_of p t x).wait ≡ Some (record { pid = p; since = t })
  unfolding waiting_of
  waiting_wait = refl

  pub waiting_fresh : (waiting_of p t x).fresh ≡ x.fresh
  unfolding waiting_of
  waiting_fresh = refl

module _ (x : Client) where
  pub idled_number : (idled_of x).number ≡ x.number
  unfolding idled_of
  idled_number = refl

  pub idled_wait : (idled_of x).wait ≡ idle
  unfolding idled_of
  idled_wait = refl

  pub idled_fresh : (idled_of x).fresh ≡ x.fresh
  unfolding idled_of
  idled_fresh = refl
