-- Round robin: from any index, as many calls of `next` as a list has entries answer each of them once.
use Rattle.std.specs.Prelude.{Some, None, ◌≡◌, eqb, take, drop}
use mathlib.Core.List.{List, [], ◌∷◌, ◌++◌, append-nil}
use Rattle.std.proofs.Math.Path.{ap}
use Rattle.std.proofs.Common.{sym, ◌∙◌, take-append-drop}
use Prim.Native.Nat.{ℕ, zero, suc, ◌+◌, ◌-◌, ◌%◌, ◌<◌, ◌≤◌}
use Rattle.std.proofs.Math.Nat.{mod-lt, mod-eq_of_lt, mod_self, zero-mod, mod-add-mod, add-mod_right}
use native.Mathlib.Omega.{arith}
use Rattle.std.proofs.Math.ListN.{get_or, length-drop}
use Rattle.std.proofs.Math.Seq.{take_all, drop-cons}
use borrow.Author.Tests.{eqb-true, eqb-false, ne_eqb}
use Rattle.base.specs.Choice.{cases}
use Rattle.base.specs.Times.{times, times_append}
use Rattle.pid_list.specs.Laws.{size_small, entry_at}
use Rattle.pid_list.specs.Members.{Sound, sound_length}
use Rattle.pid_list.specs.Rules.{with_index, entries, wrap, pid_of, next_of}
use Rattle.pid_list.specs.declared.PidList.{PidList}
use Rattle.pid_list.specs.declared.Picked.{Picked}

-- The list after k calls of `next`, and what the next one answers.
unfoldable pub turned : ℕ → PidList → PidList
turned zero l = l
turned (suc k) l = (next_of (turned k l)).list

unfoldable pub answered : ℕ → PidList → ℕ
answered k l = pid_of (next_of (turned k l))

-- What n calls answer, the first first.
unfoldable pub picks : ℕ → PidList → List ℕ
picks zero l = []
picks (suc n) l = pid_of (next_of l) ∷ picks n (next_of l).list

-- An empty list answers nothing and stays.
pub next_none : (l : PidList) → l.len ≡ 0 → next_of l ≡ record { list = l; pid = None }
unfolding next_of
next_none l e = rw (e, size_small 0 (omega arith))

module _ (l : PidList) (s : Sound l) (some : 0 < l.len) where
  -- One call: the entry at the index, and the index one further.
  pub next_some : next_of l ≡ record { list = with_index l ((l.index + 1) % l.len); pid = Some (get_or (entries l) l.index 0) }
  unfolding next_of wrap
  next_some =
      let b = s.below some in
      let z = ne_eqb l.len 0 (λ e. omega arith) in
      let n = size_small l.len s.within in
      let e = entry_at l l.index (rw n b) in
      rw (e, n, z, mod-eq_of_lt b)

  moved_sound : (i : ℕ) → i < l.len → Sound (with_index l i)
  unfolding entries
  moved_sound i h = record {
    whole = s.whole;
    within = s.within;
    below = λ _. h;
    still = λ e. omega arith;
    bytes = s.bytes;
    single = s.single;
  }

pub next_sound : (l : PidList) → Sound l → Sound (next_of l).list
next_sound l s = cases _ (eqb l.len 0)
    (λ e. rw (next_none l (eqb-true l.len 0 e)) s)
    (λ e. let z : (l.len ≡ 0 → ⊥) = eqb-false l.len 0 e in
    let some : 0 < l.len = omega arith in
    rw (next_some l s some) (moved_sound l s some ((l.index + 1) % l.len) (mod-lt (l.index + 1) some)))

module _ (l : PidList) (s : Sound l) (some : 0 < l.len) where
  -- The same from any place of the list.
  pub next_at : (i : ℕ) → i < l.len → next_of (with_index l i) ≡ record { list = with_index l ((i + 1) % l.len); pid = Some (get_or (entries l) i 0) }
  unfolding entries
  next_at i h = next_some (with_index l i) (moved_sound l s some i h) some

  -- k calls: the list is what it was, but for the index.
  pub turned_is : (k : ℕ) → turned k l ≡ with_index l ((l.index + k) % l.len)
  unfolding turned
  turned_is zero = let b = s.below some in let e : l.index + 0 ≡ l.index = omega arith in rw (e, mod-eq_of_lt b)
  turned_is (suc k) =
      let i = (l.index + k) % l.len in
      let below = mod-lt (l.index + k) some in
      let e : l.index + suc k ≡ (l.index + k) + 1 = omega arith in
      ap (λ (x : PidList). (next_of x).list) (turned_is k)
      ∙ ap (λ (x : Picked). x.list) (next_at i below)
      ∙ ap (with_index l) (mod-add-mod (l.index + k) l.len 1 ∙ ap (λ (x : ℕ). x % l.len) (sym e))

  -- The k-th call from here answers the entry k places on, around the end.
  pub answered_is : (k : ℕ) → answered k l ≡ get_or (entries l) ((l.index + k) % l.len) 0
  unfolding answered
  answered_is k =
      ap (λ (x : PidList). pid_of (next_of x)) (turned_is k)
      ∙ ap (λ (x : Picked). pid_of x) (next_at ((l.index + k) % l.len) (mod-lt (l.index + k) some))

  -- As many calls as there are entries: the index is back.
  pub around : turned l.len l ≡ l
  around = rw (turned_is l.len, add-mod_right, mod-eq_of_lt (s.below some))

  -- From the place i on, k calls answer the k entries there, and j more follow from the place i + k, around the end.
  run : (k i j : ℕ) → i + k ≤ l.len → picks (k + j) (with_index l (i % l.len)) ≡ take k (drop i (entries l)) ++ picks j (with_index l ((i + k) % l.len))
  unfolding picks
  run zero i j h = let e : 0 + j ≡ j = omega arith in let f : i + 0 ≡ i = omega arith in rw (e, f)
  run (suc k) i j h =
      let n = sound_length l s in
      let g : i < l.len = omega arith in
      let e : suc k + j ≡ suc (k + j) = omega arith in
      let f : i + suc k ≡ (i + 1) + k = omega arith in
      let b : suc i ≡ i + 1 = omega arith in
      let a = next_at i g in
      rw (e, f, mod-eq_of_lt g, a, drop-cons (entries l) i 0 (omega arith), b)
      (ap (λ (t : List ℕ). get_or (entries l) i 0 ∷ t) (run k (i + 1) j (omega arith)))

  -- As many calls as there are entries answer them all, from the index to the end and then from the start.
  pub round : picks l.len l ≡ drop l.index (entries l) ++ take l.index (entries l)
  unfolding picks
  round =
      let n = l.len in
      let i = l.index in
      let b = s.below some in
      let len = sound_length l s in
      let e₁ : (n - i) + i ≡ n = omega arith in
      let e₂ : i + (n - i) ≡ n = omega arith in
      let e₃ : i + 0 ≡ i = omega arith in
      let t = take_all (n - i) (drop i (entries l)) (rw length-drop (omega arith)) in
      let first = rw (e₁, e₂, mod-eq_of_lt b, t, mod_self n) at (run (n - i) i i (omega arith)) in
      let second = rw (e₃, append-nil, zero-mod n) at (run i 0 0 (omega arith)) in
      first ∙ rw second

  -- Each entry is answered exactly once.
  pub each_once : (q : ℕ) → times q (picks l.len l) ≡ times q (entries l)
  each_once q =
      let a = times_append q (drop l.index (entries l)) (take l.index (entries l)) in
      let b = times_append q (take l.index (entries l)) (drop l.index (entries l)) in
      let c = ap (times q) (take-append-drop l.index (entries l)) in
      rw round (omega arith)
