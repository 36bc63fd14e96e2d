-- Each definition of `Rules`, case by case: what the proofs of the functions and of the laws cite.
use Rattle.std.specs.List.{list_any}
use Rattle.reply.specs.declared.Reply.{Reply}
use Rattle.std.specs.Prelude.{Bool, [], ◌∷◌, ◌||◌, not, min, Option, Some, true, false, List, ◌≡◌, ltb, leb, eqb, length, get_or, take, drop}
use Prim.Native.Nat.{ℕ, suc, ◌+◌, ◌-◌, ◌/◌, ◌<◌, ◌≤◌}
use native.Mathlib.Omega.{arith}
use Rattle.std.proofs.Math.Numerals.{add-one}
use Rattle.std.proofs.Common.{length-take, drop_of_length-le, drop-cons, ltb-false, leb-true, leb-false, take_all, refl, ap}
use Rattle.std.proofs.Math.Seq.{get_or-take}
use Rattle.base.specs.Both.{never}
use Rattle.base.specs.Choice.{cases}
use Rattle.base.specs.Each.{some_of}
use Rattle.base.specs.Refusal.{first_of}
use Rattle.config.specs.declared.Profiles.{Profiles}
use Rattle.desk.specs.declared.Desk.{Desk}
use Rattle.reply.specs.Rules.{max_pids, within_of}
use Rattle.reply.specs.declared.Response.{Response}
use Rattle.delivery.specs.Rules.{rpm, listed_of, rising_from, over, unfit, response_refusal, revs_after, turn_of, turns_of, unanswered, response_of}
use Rattle.delivery.specs.declared.Answered.{Answered}

pub listed_le : (n : ℕ) → listed_of n ≤ max_pids
unfolding listed_of
listed_le n = omega arith

pub listed_all : (n : ℕ) → n ≤ max_pids → listed_of n ≡ n
unfolding listed_of
listed_all n h = omega arith

-- What is listed of an array: as many as are read, each as it stands.
module _ {A : Type 0} (n : ℕ) (xs : List A) (h : length xs ≡ max_pids) where
  pub listed_length : length (take n xs) ≡ listed_of n
  unfolding listed_of
  listed_length = rw (length-take, h)

  pub listed_at : (i : ℕ) (d : A) → i < listed_of n → get_or (take n xs) i d ≡ get_or xs i d
  unfolding listed_of
  listed_at i d k = get_or-take n xs i d (omega arith)

  listed_take : take (listed_of n) xs ≡ take n xs
  unfolding listed_of
  listed_take = cases _ (leb n max_pids)
      (λ e. let k : min n max_pids ≡ n = omega (arith, leb-true n max_pids e) in rw k refl)
      (λ e. let k : min n max_pids ≡ max_pids = omega (arith, leb-false n max_pids e) in
      rw (k, take_all max_pids xs (omega arith), take_all n xs (omega (arith, leb-false n max_pids e))) refl)

some_any : {A : Type 0} (g : A → Bool) (xs : List A) → list_any g xs ≡ some_of g xs
unfolding some_of
some_any g [] = refl
some_any g (x ∷ xs) = ap (λ (b : Bool). g x || b) (some_any g xs)

pub listed_over : (n : ℕ) (rs : List Reply) → length rs ≡ max_pids
    → list_any (λ r. not (within_of r)) (take (listed_of n) rs) ≡ some_of over (take n rs)
unfolding over
listed_over n rs h = rw (listed_take n rs h) (some_any over (take n rs))

module _ (xs : List ℕ) (least i : ℕ) where
  pub rising_low : i < length xs → leb least (get_or xs i 0) ≡ false → rising_from least (drop i xs) ≡ false
  unfolding rising_from
  rising_low h e = rw (drop-cons xs i 0 h, e)

  pub rising_next : i < length xs → leb least (get_or xs i 0) ≡ true → rising_from least (drop i xs) ≡ rising_from (get_or xs i 0 + 1) (drop (i + 1) xs)
  unfolding rising_from
  rising_next h e = rw (drop-cons xs i 0 h, e, add-one i)

  pub rising_end : length xs ≤ i → rising_from least (drop i xs) ≡ true
  unfolding rising_from
  rising_end h = rw (drop_of_length-le xs h)

module _ (p v : ℕ) (old : Option ℕ) where
  pub revs_of_rpm : eqb p rpm ≡ true → revs_after p v old ≡ Some (v / 4)
  unfolding revs_after
  revs_of_rpm e = rw e

  pub revs_of_other : eqb p rpm ≡ false → revs_after p v old ≡ old
  unfolding revs_after
  revs_of_other e = rw e

module _ (r : Response) where
  pub unfit_many : ltb max_pids r.count ≡ true → unfit r ≡ true
  unfolding unfit
  unfit_many e = rw e

  pub unfit_order : ltb max_pids r.count ≡ false → rising_from 0 (take r.count r.pids) ≡ false → unfit r ≡ true
  unfolding unfit
  unfit_order e f = rw (e, f)

  pub unfit_over : ltb max_pids r.count ≡ false → rising_from 0 (take r.count r.pids) ≡ true
      → unfit r ≡ some_of over (take r.count r.replies)
  unfolding unfit
  unfit_over e f = rw (e, f)

  -- A response that is taken has no more PIDs than the limit.
  pub fit_count : unfit r ≡ false → r.count ≤ max_pids
  fit_count e = cases _ (ltb max_pids r.count)
      (λ f. never (unfit r) (unfit_many f) e)
      (λ f. ltb-false max_pids r.count f)

module _ (d : Desk) (ps : Profiles) (r : Response) where
  pub response_refused : unfit r ≡ true → response_of d ps r ≡ unanswered 3 d ps
  unfolding response_of response_refusal first_of
  response_refused e = rw e

  pub response_taken : unfit r ≡ false → response_of d ps r ≡ turns_of r.count 0 r (unanswered 0 d ps)
  unfolding response_of response_refusal first_of
  response_taken e = rw e

-- One turn, by the numbers that the loop has.
module _ (r : Response) (n i : ℕ) (a : Answered) where
  pub turns_step : i < n → turns_of (n - (i + 1)) (i + 1) r (turn_of r i a) ≡ turns_of (n - i) i r a
  unfolding turns_of
  turns_step h = let e : n - i ≡ suc (n - (i + 1)) = omega arith in rw (e, add-one i)

  pub turns_end : n ≤ i → turns_of (n - i) i r a ≡ a
  unfolding turns_of
  turns_end h = let e : n - i ≡ 0 = omega arith in rw e
