-- The list of the report: document 01, "Maintenance answers a report".
use Rattle.std.specs.Prelude.{Bool, true, false, ◌&&◌, ◌||◌, List, [], ◌∷◌, ◌++◌, ◌≡◌, refl, ℕ, suc, ◌+◌, ◌<◌, ◌≤◌, ltb, pos, length, get_or, set, take, drop, replicate}
use Rattle.std.proofs.Common.{append_assoc, ◌∙◌, arith, add-one, lt-ltb, length-take, drop_of_length-le, get_or-take}
use Rattle.std.specs.Float.{fin}
use Rattle.std.specs.Float.Ieee.{lt, eq}
use Rattle.std.proofs.Math.ListN.{length-set}
use Rattle.std.proofs.Math.Seq.{drop-cons, take-suc, take-suc-set, take-set-lt, drop-set-lt}
use Rattle.std.proofs.lemmas.List.{set_split}
use Rattle.base.specs.Choice.{pick}
use Rattle.rate.specs.Rate.{rate_of}
use Rattle.pid_table.specs.declared.PidInfo.{PidInfo}
use Rattle.report.specs.declared.Rated.{Rated}
use Rattle.report.specs.declared.Rates.{Rates}

-- Highest first, equal rates by rising PID.
unfoldable pub ahead_of : Rated → Rated → Bool
ahead_of a b = lt b.rate a.rate || (eq b.rate a.rate && ltb a.pid b.pid)

-- Each PID still tracked with a counted Consumed since the last one.
unfoldable pub listed_of : PidInfo → Bool
listed_of i = i.tracked && ltb 0 i.count

-- c in its place: from where it is ahead of what is there, each goes one place on.
unfoldable pub inserted : Rated → List Rated → List Rated
inserted c [] = c ∷ []
inserted c (x ∷ xs) = pick (ahead_of c x) (c ∷ inserted x xs) (x ∷ inserted c xs)

unfoldable pub ratings : Rates → List Rated
ratings r = take r.count r.list

unfoldable pub insert_of : Rates → Rated → Rates
insert_of r c =
    pick (ltb r.count 256)
    (record { list = inserted c (take r.count r.list) ++ drop (suc r.count) r.list; count = r.count + 1 })
    r

unfoldable pub no_rates : Rates
no_rates = record { list = replicate 256 (record { pid = 0; rate = fin false 0 (pos 0) }); count = 0 }

-- The PID's rate, if it is to be listed.
unfoldable pub add_of : ℕ → ℕ → PidInfo → Rates → Rates
add_of elapsed p i r = pick (listed_of i) (insert_of r (record { pid = p; rate = rate_of i.count elapsed })) r

-- Those of the PIDs from p on.
unfoldable pub rates_from : ℕ → ℕ → List PidInfo → Rates → Rates
rates_from elapsed p [] r = r
rates_from elapsed p (x ∷ xs) r = rates_from elapsed (suc p) xs (add_of elapsed p x r)

-- Carrying c to its place: at place i of the list l, which had m and was to take d.
pub record Carrying (m : List Rated) (d : Rated) (n : ℕ) (l : List Rated) (c : Rated) (i : ℕ) : Type 0 where
  pub whole : length l ≡ 256
  pub rest : drop (suc n) l ≡ drop (suc n) m
  pub left : take i l ++ inserted c (drop i (take n l)) ≡ inserted d (take n m)

pub carry_start : (m : List Rated) (d : Rated) (n : ℕ) → length m ≡ 256 → Carrying m d n m d 0
carry_start m d n h = record { whole = h; rest = refl; left = refl }

module _ (m : List Rated) (d : Rated) (n : ℕ) (l : List Rated) (c : Rated) (i : ℕ) (z : Rated) (short : n < 256) (at : i < n) where
  here : Carrying m d n l c i → drop i (take n l) ≡ get_or l i z ∷ drop (suc i) (take n l)
  here k =
      let w = k.whole in
      drop-cons (take n l) i z (rw length-take (omega arith)) ∙ rw (get_or-take n l i z at)

  -- It takes the place, and what was there is carried on.
  pub carry_swap : ahead_of c (get_or l i z) ≡ true → Carrying m d n l c i → Carrying m d n (set l i c) (get_or l i z) (i + 1)
  unfolding inserted
  carry_swap e k =
      let w = k.whole in
      let v = rw (here k, e) at k.left in
      record {
        whole = simp length-set w;
        rest = rw (drop-set-lt (suc n) l i c (omega arith)) k.rest;
        left = rw (add-one i, take-suc-set l i c (omega arith), take-set-lt n l i c at, drop-set-lt (suc i) (take n l) i c (omega arith)) (append_assoc (take i l) (c ∷ []) (inserted (get_or l i z) (drop (suc i) (take n l))) ∙ v);
      }

  pub carry_pass : ahead_of c (get_or l i z) ≡ false → Carrying m d n l c i → Carrying m d n l c (i + 1)
  unfolding inserted
  carry_pass e k =
      let w = k.whole in
      let v = rw (here k, e) at k.left in
      record {
        whole = w;
        rest = k.rest;
        left = rw (add-one i, take-suc l i z (omega arith)) (append_assoc (take i l) (get_or l i z ∷ []) (inserted c (drop (suc i) (take n l))) ∙ v);
      }

-- At the end of the list it is put behind the others.
pub carry_end : (r : Rates) (d : Rated) (l : List Rated) (c : Rated) (i : ℕ) → r.count < 256 → r.count ≡ i → Carrying r.list d r.count l c i
    → record { list = set l i c; count = i + 1 } ≡ insert_of r d
unfolding insert_of inserted
carry_end r d l c i h e k =
    let w = k.whole in
    let t = take i l in
    let short : length t ≤ i = rw length-take (omega arith) in
    let gone : drop i t ≡ [] = drop_of_length-le t short in
    let v = rw (e, gone) at k.left in
    rw (lt-ltb r.count 256 h, e, set_split l i c (omega arith), ← v, ← (rw e at k.rest)) (rw (append_assoc t (c ∷ []) (drop (suc i) l)))

module _ (elapsed : ℕ) where
  pub rates_turn : (xs : List PidInfo) (i : ℕ) (z : PidInfo) (r : Rates) → i < length xs
      → rates_from elapsed i (drop i xs) r ≡ rates_from elapsed (i + 1) (drop (i + 1) xs) (add_of elapsed i (get_or xs i z) r)
  unfolding rates_from
  rates_turn xs i z r h = rw (add-one i, drop-cons xs i z h)

  pub rates_end : (xs : List PidInfo) (i : ℕ) (r : Rates) → length xs ≤ i → rates_from elapsed i (drop i xs) r ≡ r
  unfolding rates_from
  rates_end xs i r h = rw (drop_of_length-le xs h)

pub add_listed : (elapsed p : ℕ) (i : PidInfo) (r : Rates) → listed_of i ≡ true → add_of elapsed p i r ≡ insert_of r (record { pid = p; rate = rate_of i.count elapsed })
unfolding add_of
add_listed elapsed p i r e = rw e

pub add_unlisted : (elapsed p : ℕ) (i : PidInfo) (r : Rates) → listed_of i ≡ false → add_of elapsed p i r ≡ r
unfolding add_of
add_unlisted elapsed p i r e = rw e
