-- The report's list is sorted, and lists exactly the PIDs still tracked with a counted Consumed, each with its rate.
use Rattle.std.specs.Prelude.{true, false, List, [], ◌∷◌, ◌≡◌, refl, ℕ, zero, suc, ◌+◌, ◌<◌, ◌≤◌, ltb, eqb, length, get_or, take, drop}
use Rattle.std.proofs.Common.{ap, sym, ◌∙◌, arith, length-take, length-drop, length-append, take_at}
use Rattle.std.proofs.Math.ListN.{get_or-eq_default}
use borrow.Author.Tests.{ltb-true, ltb-false, eqb-true, eqb-false, lt-ltb, le-ltb, eq-eqb, ne_eqb}
use Rattle.base.specs.Choice.{pick, one, cases}
use Rattle.base.specs.Times.{times}
use Rattle.rate.specs.Rate.{rate_of}
use Rattle.rate.specs.Order.{rate_ranked}
use Rattle.pid_table.specs.Entry.{nobody}
use Rattle.pid_table.specs.declared.PidInfo.{PidInfo}
use Rattle.report.specs.Rates.{ahead_of, listed_of, inserted, ratings, insert_of, no_rates, add_of, rates_from, rates_turn, rates_end, add_listed, add_unlisted}
use Rattle.report.specs.Order.{Rankable, ahead_before, before_ahead, not_ahead, before_trans}
use Rattle.report.specs.declared.Rated.{Rated}
use Rattle.report.specs.declared.Rates.{Rates}

-- Each of a list has the property.
unfoldable pub Each : (Rated → Type 0) → List Rated → Type 0
Each P [] = Unit {0}
Each P (x ∷ xs) = P x × Each P xs

-- Each is ahead of all that stand after it.
unfoldable pub Sorted : List Rated → Type 0
Sorted [] = Unit {0}
Sorted (x ∷ xs) = Each (λ (y : Rated). ahead_of x y ≡ true) xs × Sorted xs

-- The PIDs of a list.
unfoldable pub pids : List Rated → List ℕ
pids [] = []
pids (x ∷ xs) = x.pid ∷ pids xs

each_inserted : (P : Rated → Type 0) (c : Rated) (xs : List Rated) → P c → Each P xs → Each P (inserted c xs)
unfolding Each inserted
each_inserted P c [] p e = (p, tt)
each_inserted P c (x ∷ xs) p e = cases _ (ahead_of c x)
    (λ f. rw f (p, each_inserted P x xs e.0 e.1))
    (λ f. rw f (e.0, each_inserted P c xs p e.1))

each_map : (P Q : Rated → Type 0) → ((x : Rated) → P x → Q x) → (xs : List Rated) → Each P xs → Each Q xs
unfolding Each
each_map P Q f [] e = tt
each_map P Q f (x ∷ xs) e = (f x e.0, each_map P Q f xs e.1)

length_inserted : (c : Rated) (xs : List Rated) → length (inserted c xs) ≡ suc (length xs)
unfolding inserted
length_inserted c [] = refl
length_inserted c (x ∷ xs) = cases _ (ahead_of c x) (λ f. rw f (ap suc (length_inserted x xs))) (λ f. rw f (ap suc (length_inserted c xs)))

pub times_inserted : (q : ℕ) (c : Rated) (xs : List Rated) → times q (pids (inserted c xs)) ≡ one (eqb c.pid q) + times q (pids xs)
unfolding inserted pids times
times_inserted q c [] = refl
times_inserted q c (x ∷ xs) = cases _ (ahead_of c x)
    (λ f. rw f (omega (arith, times_inserted q x xs)))
    (λ f. rw f (omega (arith, times_inserted q c xs)))

-- What is ahead of all goes to the front.
front : (x : Rated) (xs : List Rated) → Sorted (x ∷ xs) → inserted x xs ≡ x ∷ xs
unfolding inserted Sorted Each
front x [] s = refl
front x (y ∷ ys) s = rw s.0.0 (ap (λ (l : List Rated). x ∷ l) (front y ys s.1))

-- c is ahead of all that x is ahead of, where it is ahead of x.
behind : (c x : Rated) (xs : List Rated) → Rankable c → Rankable x → Each Rankable xs → ahead_of c x ≡ true
    → Each (λ (y : Rated). ahead_of x y ≡ true) xs → Each (λ (y : Rated). ahead_of c y ≡ true) xs
unfolding Each
behind c x [] p q a e s = tt
behind c x (y ∷ ys) p q a e s =
    (before_ahead c y p a.0 (before_trans c x y (ahead_before c x p q e) (ahead_before x y q a.0 s.0)), behind c x ys p q a.1 e s.1)

pub sorted_inserted : (c : Rated) (xs : List Rated) → Rankable c → Each Rankable xs → Each (λ (y : Rated). c.pid ≡ y.pid → ⊥) xs → Sorted xs → Sorted (inserted c xs)
unfolding inserted Sorted Each
sorted_inserted c [] p a d s = (tt, tt)
sorted_inserted c (x ∷ xs) p a d s = cases _ (ahead_of c x)
    (λ f. rw (f, front x xs s) ((f, behind c x xs p a.0 a.1 f s.0), s))
    (λ f. rw f (
      each_inserted (λ (y : Rated). ahead_of x y ≡ true) c xs (before_ahead x c a.0 p (not_ahead c x p a.0 f d.0)) s.0,
      sorted_inserted c xs p a.1 d.1 s.1,
    ))

ratings_inserted : (r : Rates) (c : Rated) → length r.list ≡ 256 → r.count < 256 → ratings (insert_of r c) ≡ inserted c (ratings r)
unfolding ratings insert_of
ratings_inserted r c w h =
    let t = take r.count r.list in
    let a = length_inserted c t in
    let b = length-take r.count r.list in
    rw (lt-ltb r.count 256 h) (take_at (inserted c t) (drop (suc r.count) r.list) (r.count + 1) (omega arith))

whole_inserted : (r : Rates) (c : Rated) → length r.list ≡ 256 → r.count < 256 → length (insert_of r c).list ≡ 256
unfolding insert_of
whole_inserted r c w h =
    let t = take r.count r.list in
    let a = length_inserted c t in
    let b = length-take r.count r.list in
    rw (lt-ltb r.count 256 h, length-append (inserted c t) (drop (suc r.count) r.list), length-drop (suc r.count) r.list) (omega arith)

count_inserted : (r : Rates) (c : Rated) → r.count < 256 → (insert_of r c).count ≡ r.count + 1
unfolding insert_of
count_inserted r c h = rw (lt-ltb r.count 256 h)

-- The PID's own rate.
abbrev pub Right : List PidInfo → ℕ → Rated → Type 0
Right table elapsed y = y.rate ≡ rate_of (get_or table y.pid nobody).count elapsed

-- The list for the PIDs below p of a table.
pub record Good (table : List PidInfo) (elapsed p : ℕ) (r : Rates) : Type 0 where
  pub whole : length r.list ≡ 256
  pub few : r.count ≤ p
  pub sorted : Sorted (ratings r)
  pub ranked : Each Rankable (ratings r)
  pub passed : Each (λ (y : Rated). y.pid < p) (ratings r)
  pub right : Each (Right table elapsed) (ratings r)
  pub exact : (q : ℕ) → times q (pids (ratings r)) ≡ pick (ltb q p) (one (listed_of (get_or table q nobody))) 0

-- One place further.
next_pick : (q p n : ℕ) → (q ≡ p → ⊥) → pick (ltb q (p + 1)) n 0 ≡ pick (ltb q p) n 0
next_pick q p n d = cases _ (ltb q p)
    (λ f. let h = ltb-true q p f in rw (f, lt-ltb q (p + 1) (omega arith)))
    (λ f. let h = ltb-false q p f in rw (f, le-ltb q (p + 1) (omega arith)))

same_pick : (p n : ℕ) → pick (ltb p (p + 1)) n 0 ≡ n
same_pick p n = rw (lt-ltb p (p + 1) (omega arith))

none_pick : (p n : ℕ) → pick (ltb p p) n 0 ≡ 0
none_pick p n = rw (le-ltb p p (omega arith))

later : (p : ℕ) (xs : List Rated) → Each (λ (y : Rated). y.pid < p) xs → Each (λ (y : Rated). y.pid < p + 1) xs
later p = each_map (λ (y : Rated). y.pid < p) (λ (y : Rated). y.pid < p + 1) (λ y h. omega arith)

other : (p : ℕ) (xs : List Rated) → Each (λ (y : Rated). y.pid < p) xs → Each (λ (y : Rated). p ≡ y.pid → ⊥) xs
other p = each_map (λ (y : Rated). y.pid < p) (λ (y : Rated). p ≡ y.pid → ⊥) (λ y h e. omega arith)

module _ (table : List PidInfo) (elapsed p : ℕ) (r : Rates) (g : Good table elapsed p r) where
  good_skips : listed_of (get_or table p nobody) ≡ false → Good table elapsed (p + 1) r
  good_skips e = record {
    whole = g.whole;
    few = let h = g.few in omega arith;
    sorted = g.sorted;
    ranked = g.ranked;
    passed = later p (ratings r) g.passed;
    right = g.right;
    exact = λ q. cases _ (eqb q p)
        (λ f. let h = eqb-true q p f in rw h (let x = g.exact p in rw (same_pick p (one (listed_of (get_or table p nobody))), e) (x ∙ none_pick p (one (listed_of (get_or table p nobody))))))
        (λ f. g.exact q ∙ sym (next_pick q p (one (listed_of (get_or table q nobody))) (eqb-false q p f)));
  }

  good_adds : p < 256 → listed_of (get_or table p nobody) ≡ true
      → Good table elapsed (p + 1) (insert_of r (record { pid = p; rate = rate_of (get_or table p nobody).count elapsed }))
  good_adds room e =
      let c : Rated = record { pid = p; rate = rate_of (get_or table p nobody).count elapsed } in
      let few = g.few in
      let is = ratings_inserted r c g.whole (omega arith) in
      let up = rate_ranked (get_or table p nobody).count elapsed in
      record {
        whole = whole_inserted r c g.whole (omega arith);
        few = rw (count_inserted r c (omega arith)) (omega arith);
        sorted = rw is (sorted_inserted c (ratings r) up g.ranked (other p (ratings r) g.passed) g.sorted);
        ranked = rw is (each_inserted Rankable c (ratings r) up g.ranked);
        passed = rw is (each_inserted (λ (y : Rated). y.pid < p + 1) c (ratings r) (omega arith) (later p (ratings r) g.passed));
        right = rw is (each_inserted (Right table elapsed) c (ratings r) refl g.right);
        exact = λ q. rw (is, times_inserted q c (ratings r)) (cases _ (eqb q p)
            (λ f. let h = eqb-true q p f in rw (h, eq-eqb p p refl) (let x = g.exact p ∙ none_pick p (one (listed_of (get_or table p nobody))) in rw (same_pick p (one (listed_of (get_or table p nobody))), e) (omega arith)))
            (λ f. let h : (q ≡ p → ⊥) = eqb-false q p f in rw (ne_eqb p q (λ z. h (sym z))) (let x = g.exact q ∙ sym (next_pick q p (one (listed_of (get_or table q nobody))) h) in omega arith)));
      }

-- The whole table: from the PID p on, with k entries left.
module _ (table : List PidInfo) (elapsed : ℕ) (wide : length table ≤ 256) where
  good_from : (k p : ℕ) (r : Rates) → p + k ≡ length table → Good table elapsed p r → Good table elapsed (length table) (rates_from elapsed p (drop p table) r)
  good_from zero p r e g =
      let h : p ≡ length table = omega arith in
      rw (rates_end elapsed table p r (omega arith)) (rw (← h) g)
  good_from (suc k) p r e g =
      let i = get_or table p nobody in
      rw (rates_turn elapsed table p nobody r (omega arith))
      (good_from k (p + 1) (add_of elapsed p i r) (omega arith) (cases _ (listed_of i)
      (λ f. rw (add_listed elapsed p i r f) (good_adds table elapsed p r g (omega arith) f))
      (λ f. rw (add_unlisted elapsed p i r f) (good_skips table elapsed p r g f))))

  good_start : Good table elapsed 0 no_rates
  unfolding no_rates ratings Sorted Each pids times
  good_start = record {
    whole = refl;
    few = omega arith;
    sorted = tt;
    ranked = tt;
    passed = tt;
    right = tt;
    exact = λ q. rw (le-ltb q 0 (omega arith));
  }

  good_rates : Good table elapsed (length table) (rates_from elapsed 0 table no_rates)
  good_rates = good_from (length table) 0 no_rates (omega arith) good_start

  -- Highest first, equal rates by rising PID.
  pub rates_sorted : Sorted (ratings (rates_from elapsed 0 table no_rates))
  rates_sorted = good_rates.sorted

  -- Exactly the PIDs still tracked with a counted Consumed, each once.
  pub rates_exact : (q : ℕ) → times q (pids (ratings (rates_from elapsed 0 table no_rates))) ≡ one (listed_of (get_or table q nobody))
  unfolding listed_of
  rates_exact q = good_rates.exact q ∙ cases _ (ltb q (length table))
      (λ f. rw f)
      (λ f. let h = ltb-false q (length table) f in rw (f, get_or-eq_default table nobody h))

  -- Each with its rate.
  pub rates_right : Each (Right table elapsed) (ratings (rates_from elapsed 0 table no_rates))
  rates_right = good_rates.right
