-- What `removeOf` and `setOf` do to a list, in terms of how often each PID stands in it.
use Rattle.std.specs.Prelude.{List, [], ◌∷◌, ◌≡◌, refl, ltb, eqb, length, set, get_or, take}
use Rattle.std.proofs.Common.{sym, ◌∙◌, length-take, length-set, take-suc, get_or-take}
use Prim.Native.Nat.{ℕ, suc, ◌+◌, ◌-◌, ◌<◌, ◌≤◌}
use Rattle.std.proofs.Math.Numerals.{add-one}
use native.Mathlib.Omega.{arith}
use Rattle.std.proofs.lemmas.List.{length-replicate, take-set-le}
use Rattle.std.proofs.Math.Seq.{take-set-lt, take-suc-set}
use borrow.Author.Tests.{ltb-true, ltb-false, eqb-true, lt-ltb, eq-eqb, ne_eqb}
use Rattle.base.specs.Choice.{pick, one, cases}
use Rattle.base.specs.Times.{times, times_append, times_set}
use Rattle.pid_list.specs.Laws.{size_le, size_small, size_entries, entry_at, wrap_lt}
use Rattle.pid_list.specs.Pigeons.{pigeons}
use Rattle.pid_list.specs.Rules.{size_of, entries, empty_list, place, wrap, swap_out, append_of, fit_of, remove_of, set_of, next_of}
use Rattle.pid_list.specs.declared.PidList.{PidList}

-- ---- a search: what is found stands there, and what is not found is absent

place_at : (xs : List ℕ) (p : ℕ) → place xs p < length xs → get_or xs (place xs p) 0 ≡ p
unfolding place
place_at [] p h = omega arith
place_at (x ∷ xs) p h = cases _ (eqb x p)
    (λ e. rw e (eqb-true x p e))
    (λ e. rw e (place_at xs p (let a = rw e at h in omega arith)))

place_absent : (xs : List ℕ) (p : ℕ) → length xs ≤ place xs p → times p xs ≡ 0
unfolding place times
place_absent [] p h = refl
place_absent (x ∷ xs) p h = cases _ (eqb x p)
    (λ e. let a = rw e at h in omega arith)
    (λ e. let a = rw e at h in rw e (omega (arith, place_absent xs p (omega arith))))

-- ---- a list whose array is whole

swap_times : (q : ℕ) (xs : List ℕ) (m i p : ℕ) → m < length xs → i ≤ m → get_or xs i 0 ≡ p
    → times q (take m (set xs i (get_or xs m 0))) + one (eqb p q) ≡ times q (take (suc m) xs)
unfolding times
swap_times q xs m i p h k e =
    let t : times q (take (suc m) xs) ≡ times q (take m xs) + one (eqb (get_or xs m 0) q)
    = rw (take-suc xs m 0) (omega (arith, times_append q (take m xs) (get_or xs m 0 ∷ []))) in
    cases _ (ltb i m)
    (λ b. let s = ltb-true i m b in
    let u = times_set q (take m xs) i (get_or xs m 0) (rw length-take (omega arith)) in
    let w = rw (get_or-take m xs i 0, e) at u in
    rw (take-set-lt m xs i (get_or xs m 0)) (omega arith))
    (λ b. let s : i ≡ m = omega (arith, ltb-false i m b) in
    rw (take-set-le m xs i (get_or xs m 0) (omega arith)) (let w : get_or xs m 0 ≡ p = rw (← s) e in sym (rw w at t)))

fit_entries : (l : PidList) → entries (fit_of l) ≡ entries l
unfolding fit_of entries
fit_entries l = refl

module _ (l : PidList) (p q : ℕ) (h : length l.pids ≡ 256) where
  swap_out_times : times q (entries (swap_out l p)) ≡ times q (entries l) - one (eqb p q)
  unfolding swap_out entries
  swap_out_times =
      let n = size_of l.len in
      let i = place (entries l) p in
      let le = size_le l.len in
      let long = size_entries l h in
      cases _ (ltb i n)
      (λ b. let s = ltb-true i n b in
      let z : suc (n - 1) ≡ n = omega arith in
      let a = swap_times q l.pids (n - 1) i p (omega arith) (omega arith) (sym (entry_at l i s) ∙ place_at (entries l) p (omega arith)) in
      let a' = rw z at a in
      rw (b, size_small (n - 1) (omega arith)) (omega arith))
      (λ b. let s = ltb-false i n b in
      let a = place_absent (entries l) p (omega arith) in
      rw (b, size_small n le) (cases _ (eqb p q)
      (λ e. let w = rw (eqb-true p q e) at a in rw e (omega arith))
      (λ e. rw e (omega arith))))

  append_times : size_of l.len < 256 → times q (entries (append_of l p)) ≡ times q (entries l) + one (eqb p q)
  unfolding append_of entries times
  append_times k =
      let n = size_of l.len in
      let a = times_append q (take n l.pids) (p ∷ []) in
      rw (lt-ltb n 256 k, size_small (n + 1) (omega arith), add-one, take-suc-set l.pids n p (omega arith)) (omega arith)

swap_out_whole : (l : PidList) (p : ℕ) → length l.pids ≡ 256 → length (swap_out l p).pids ≡ 256
unfolding swap_out
swap_out_whole l p h = cases _ (ltb (place (entries l) p) (size_of l.len)) (λ b. rw b (simp length-set h)) (λ b. rw b h)

swap_out_within : (l : PidList) (p : ℕ) → (swap_out l p).len ≤ 256
unfolding swap_out
swap_out_within l p = let le = size_le l.len in
    cases _ (ltb (place (entries l) p) (size_of l.len)) (λ b. rw b (omega arith)) (λ b. rw b le)

append_whole : (l : PidList) (p : ℕ) → length l.pids ≡ 256 → length (append_of l p).pids ≡ 256
unfolding append_of
append_whole l p h = cases _ (ltb (size_of l.len) 256) (λ b. rw b (simp length-set h)) (λ b. rw b h)

append_within : (l : PidList) (p : ℕ) → (append_of l p).len ≤ 256
unfolding append_of
append_within l p = let le = size_le l.len in
    cases _ (ltb (size_of l.len) 256) (λ b. let k = ltb-true (size_of l.len) 256 b in rw b (omega arith)) (λ b. rw b le)

-- ---- a list as the calls leave it

-- The array is whole, the length within it, the index below the length or 0, every entry a byte, and none twice.
pub record Sound (l : PidList) : Type 0 where
  pub whole : length l.pids ≡ 256
  pub within : l.len ≤ 256
  pub below : 0 < l.len → l.index < l.len
  pub still : l.len ≡ 0 → l.index ≡ 0
  pub bytes : (q : ℕ) → 256 ≤ q → times q (entries l) ≡ 0
  pub single : (q : ℕ) → times q (entries l) ≤ 1

pub sound_length : (l : PidList) → Sound l → length (entries l) ≡ l.len
sound_length l s = size_entries l s.whole ∙ size_small l.len s.within

pub empty_times : (q : ℕ) → times q (entries empty_list) ≡ 0
unfolding entries empty_list times size_of
empty_times q = refl

pub empty_sound : Sound empty_list
unfolding empty_list
empty_sound = record {
  whole = length-replicate {A = ℕ} 256 0;
  within = omega arith;
  below = λ h. omega arith;
  still = λ e. refl;
  bytes = λ q h. empty_times q;
  single = λ q. omega (arith, empty_times q);
}

-- The index reduced: all else is kept.
fit_sound : (l : PidList) → length l.pids ≡ 256 → l.len ≤ 256 → ((q : ℕ) → 256 ≤ q → times q (entries l) ≡ 0) → ((q : ℕ) → times q (entries l) ≤ 1) → Sound (fit_of l)
unfolding fit_of wrap
fit_sound l w n b s = record {
  whole = w;
  within = n;
  below = λ h. rw (size_small l.len n) (wrap_lt l.index l.len h);
  still = λ e. rw (size_small l.len n, eq-eqb l.len 0 e);
  bytes = λ q h. rw (fit_entries l) (b q h);
  single = λ q. rw (fit_entries l) (s q);
}

module _ (l : PidList) (p : ℕ) (s : Sound l) where
  -- p is gone, and every other PID is there as before.
  pub remove_times : (q : ℕ) → times q (entries (remove_of l p)) ≡ pick (eqb p q) 0 (times q (entries l))
  unfolding remove_of
  remove_times q =
      let a = swap_out_times l p q s.whole in
      let b = s.single q in
      rw (fit_entries (swap_out l p)) (cases _ (eqb p q) (λ e. let c = rw e at a in rw e (omega arith)) (λ e. let c = rw e at a in rw e (omega arith)))

  pub remove_sound : Sound (remove_of l p)
  unfolding remove_of
  remove_sound = fit_sound (swap_out l p) (swap_out_whole l p s.whole) (swap_out_within l p)
      (λ q h. let a = swap_out_times l p q s.whole in let b = s.bytes q h in omega arith)
      (λ q. let a = swap_out_times l p q s.whole in let b = s.single q in omega arith)

  -- p is there once, and every other PID as before: after the removal there is room for p.
  module _ (byte : p < 256) where
    room : size_of (swap_out l p).len < 256
    room =
        let o = swap_out l p in
        let long = size_entries o (swap_out_whole l p s.whole) in
        let k = pigeons 256 p (entries o) byte
        (λ q. let a = swap_out_times l p q s.whole in let b = s.single q in omega arith)
        (λ q h. let a = swap_out_times l p q s.whole in let b = s.bytes q h in omega arith)
        (let a = rw (eq-eqb p p refl) at (swap_out_times l p p s.whole) in let b = s.single p in omega arith) in
        omega arith

    set_out : (q : ℕ) → times q (entries (append_of (swap_out l p) p)) ≡ (times q (entries l) - one (eqb p q)) + one (eqb p q)
    set_out q = omega (arith, append_times (swap_out l p) p q (swap_out_whole l p s.whole) room, swap_out_times l p q s.whole)

    pub set_times : (q : ℕ) → times q (entries (set_of l p)) ≡ pick (eqb p q) 1 (times q (entries l))
    unfolding set_of
    set_times q =
        let a = set_out q in
        let b = s.single q in
        rw (fit_entries (append_of (swap_out l p) p)) (cases _ (eqb p q) (λ e. let c = rw e at a in rw e (omega arith)) (λ e. let c = rw e at a in rw e (omega arith)))

    pub set_sound : Sound (set_of l p)
    unfolding set_of
    set_sound = fit_sound (append_of (swap_out l p) p) (append_whole (swap_out l p) p (swap_out_whole l p s.whole)) (append_within (swap_out l p) p)
        (λ q h. let a = set_out q in let b = s.bytes q h in let c = ne_eqb p q (λ e. omega arith) in let d = rw c at a in omega arith)
        (λ q. let a = set_out q in let b = s.single q in cases _ (eqb p q) (λ e. let c = rw e at a in omega arith) (λ e. let c = rw e at a in omega arith))

-- `next` moves the index and nothing else.
pub next_entries : (l : PidList) → entries (next_of l).list ≡ entries l
unfolding next_of entries
next_entries l = cases _ (eqb (size_of l.len) 0) (λ e. rw e) (λ e. rw e)
