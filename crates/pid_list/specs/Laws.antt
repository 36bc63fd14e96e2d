-- Sizes, places and indexes: what the proofs of the functions cite.
use Rattle.std.specs.Prelude.{List, [], ◌∷◌, Some, None, ◌≡◌, refl, ℕ, suc, ◌+◌, ◌<◌, ◌≤◌, ltb, eqb, length, get_or, take}
use Rattle.std.proofs.Common.{sym, mod-lt, arith, length-take, get_or-take, ltb-true, ltb-false, ne_eqb}
use Rattle.std.specs.List.{position, position_or_len}
use Rattle.std.proofs.lemmas.Option.{none-some, same_Some}
use Rattle.base.specs.Choice.{cases}
use Rattle.pid_list.specs.Rules.{size_of, entries, place, wrap}
use Rattle.pid_list.specs.declared.PidList.{PidList}

pub size_le : (n : ℕ) → size_of n ≤ 256
unfolding size_of
size_le n = cases _ (ltb n 256) (λ e. rw e (omega (arith, ltb-true n 256 e))) (λ e. rw e (omega arith))

pub size_small : (n : ℕ) → n ≤ 256 → size_of n ≡ n
unfolding size_of
size_small n h = cases _ (ltb n 256) (λ e. rw e) (λ e. let a = ltb-false n 256 e in rw e (omega arith))

pub length_counted : (n : ℕ) (xs : List ℕ) → length xs ≡ 256 → length (take (size_of n) xs) ≡ size_of n
length_counted n xs h = rw length-take (omega (arith, size_le n))

pub size_entries : (l : PidList) → length l.pids ≡ 256 → length (entries l) ≡ size_of l.len
unfolding entries
size_entries l h = length_counted l.len l.pids h

pub entry_at : (l : PidList) (i : ℕ) → i < size_of l.len → get_or (entries l) i 0 ≡ get_or l.pids i 0
unfolding entries
entry_at l i h = get_or-take (size_of l.len) l.pids i 0 h

pub wrap_lt : (i n : ℕ) → 0 < n → wrap i n < n
unfolding wrap
wrap_lt i n h = rw (ne_eqb n 0 (λ e. omega arith)) (mod-lt i h)

-- The place that `position` finds is the first; where it finds none there is none.
place_is : (xs : List ℕ) (p : ℕ) → position_or_len (λ x. eqb x p) xs ≡ place xs p
unfolding place
place_is [] p = refl
place_is (x ∷ xs) p = cases _ (eqb x p) (λ e. rw e) (λ e. let z : 1 + place xs p ≡ suc (place xs p) = omega arith in rw (e, place_is xs p) z)

pub placed : (xs : List ℕ) (p i : ℕ) → position (λ x. eqb x p) xs ≡ Some i → (i ≡ place xs p) × (i < length xs)
placed xs p i e = cases _ (ltb (place xs p) (length xs))
    (λ b. let f = rw (place_is xs p, b) at e in let g = same_Some _ _ f in let h = ltb-true _ _ b in (sym g, omega arith))
    (λ b. absurd (none-some i (rw (place_is xs p, b) at e)))

pub unplaced : (xs : List ℕ) (p : ℕ) → position (λ x. eqb x p) xs ≡ None → length xs ≤ place xs p
unplaced xs p e = cases _ (ltb (place xs p) (length xs))
    (λ b. absurd (none-some (place xs p) (sym (rw (place_is xs p, b) at e))))
    (λ b. omega (arith, ltb-false _ _ b))
