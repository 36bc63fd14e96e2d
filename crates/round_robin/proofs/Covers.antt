-- Each completed round asks the next entry of the fast list, so as many of them as it has entries ask each. In Ratio mode each
-- passed test asks the next entry of the slow list. With a fast PID one test passes in each max(1, ratio) rounds, without one in each
-- round.
use Rattle.std.specs.Prelude.{Bool, true, false, List, [], ◌∷◌, ◌++◌, ◌≡◌, refl, length, take, drop}
use Rattle.std.proofs.Common.{ap, sym, ◌∙◌, length-drop}
use Prim.Native.Nat.{ℕ, zero, suc, ◌+◌, ◌-◌, ◌*◌, ◌<◌, ◌≤◌}
use Rattle.std.proofs.Math.Nat.{suc-mul}
use native.Mathlib.Omega.{arith}
use borrow.Author.Tests.{leb-false}
use Rattle.base.specs.Choice.{false_true}
use Rattle.base.specs.Count.{most, more_is}
use Rattle.base.specs.Times.{times, times_append}
use Rattle.config.specs.declared.Settings.{Settings}
use Rattle.pid_list.specs.Members.{Sound, sound_length, next_entries}
use Rattle.pid_list.specs.Robin.{picks, next_some, next_sound, each_once}
use Rattle.pid_list.specs.Rules.{entries, found as picked, pid_of, next_of}
use Rattle.pid_list.specs.declared.PidList.{PidList}
use Rattle.round_robin.specs.Marks.{joined}
use Rattle.round_robin.proofs.Machine.{wanted, stretch, firstly, counted, passed, unsent, failed, Tests, none, more}

-- A list that has entries, as the calls leave it.
pub record Live (l : PidList) : Type 0 where
  pub sound : Sound l
  pub some : 0 < l.len

pub next_live : (l : PidList) → Live l → Live (next_of l).list
next_live l v = record { sound = next_sound l v.sound; some = rw (next_some l v.sound v.some) v.some }

found : (l : PidList) → Live l → picked (next_of l) ≡ true
found l v = rw (next_some l v.sound v.some)

-- From another place, the list is the same but for the index.
record Turns (l m : PidList) : Type 0 where
  live : Live m
  same : entries m ≡ entries l

next_turns : (l m : PidList) → Turns l m → Turns l (next_of m).list
next_turns l m t = record { live = next_live m t.live; same = next_entries m ∙ t.same }

-- As many picks as there are entries have each of them.
turns_picks : (l m : PidList) → Turns l m → (q : ℕ) → times q (picks (length (entries l)) m) ≡ times q (entries l)
turns_picks l m t q =
    let n : length (entries l) ≡ m.len = rw (← t.same) (sound_length m t.live.sound) in
    rw n (each_once m t.live.sound t.live.some q ∙ ap (times q) t.same)

-- ---- one more request

module _ (st : Settings) where
  -- When a round makes its test, at most one fast request less than the stretch has rounds is missing.
  ready : (nofast : Bool) (n : ℕ) → wanted st nofast ≤ counted nofast n + (stretch st nofast - 1)
  ready true n = omega arith
  ready false n = omega (arith, more_is n)

  -- A test that failed wants one request less the next time.
  one_more : (nofast : Bool) (n : ℕ) → st.ratio ≤ most → n < wanted st nofast → counted nofast n ≡ n + 1
  one_more true n h k = absurd (omega arith)
  one_more false n h k = omega (arith, more_is n)

  -- So many rounds ask at least what so many picks of the fast list are.
  fast_picks : (q n : ℕ) (f : PidList) {l : PidList} {r : ℕ} {rs : List (List ℕ)} → Tests st false (pid_of (next_of f) ∷ []) (next_of f).list l r rs → n ≤ length rs
      → times q (picks n f) ≤ times q (joined (take n rs))
  unfolding picks joined times
  fast_picks q zero f t h = omega arith
  fast_picks q (suc n) f none h = absurd (omega arith)
  fast_picks q (suc n) f (more {ys = ys} {rs = rs} w t) h =
      let a = fast_picks q n (next_of f).list t (omega arith) in
      omega (arith, times_append q ys (joined (take n rs)))

module _ (st : Settings) (nofast : Bool) (q : ℕ) (ratio-mode : st.mode ≡ 0 → ⊥) (fits : st.ratio ≤ most) where
  abbrev each : ℕ
  each = stretch st nofast

  -- A test that passes at the latest at the end of m + 1 rounds, and j more, one in each stretch behind them.
  reach : (j m n k : ℕ) (l : PidList) → Live l → {xs : List ℕ} {f : PidList} {rs : List (List ℕ)} → Tests st nofast xs f l n rs
      → wanted st nofast ≤ n + m → (m + 1) + j * each ≤ k → k ≤ length rs → times q (picks (suc j) l) ≤ times q (joined (take k rs))
  unfolding picks joined times
  reach j m n zero l v t a b c = absurd (omega arith)
  reach j m n (suc k) l v none a b c = absurd (omega arith)
  reach zero m n (suc k) l v (more {xs = xs} {rs = rs} (passed d e) t) a b c =
      omega (arith, times_append q (xs ++ (pid_of (next_of l) ∷ [])) (joined (take k rs)), times_append q xs (pid_of (next_of l) ∷ []))
  reach (suc j) m n (suc k) l v (more {xs = xs} {rs = rs} (passed d e) t) a b c =
      let s = suc-mul j each in
      let i = reach j (each - 1) (counted nofast 0) k (next_of l).list (next_live l v) t (ready st nofast 0) (omega arith) (omega arith) in
      omega (arith, times_append q (xs ++ (pid_of (next_of l) ∷ [])) (joined (take k rs)), times_append q xs (pid_of (next_of l) ∷ []))
  reach j m n (suc k) l v (more (unsent d e) t) a b c = false_true (sym e ∙ found l v)
  reach j zero n (suc k) l v (more (failed d) t) a b c = let z = leb-false (wanted st nofast) n (d ratio-mode) in absurd (omega arith)
  reach j (suc m) n (suc k) l v (more {xs = xs} {ys = ys} {rs = rs} (failed d) t) a b c =
      let z = leb-false (wanted st nofast) n (d ratio-mode) in
      let o = one_more st nofast n fits z in
      let i = reach j m (counted nofast n) k l v t (omega arith) (omega arith) (omega arith) in
      omega (arith, times_append q (xs ++ []) (joined (take k rs)))

-- Later rounds go on from other places of the lists.
record Later (st : Settings) (nofast : Bool) (f l : PidList) (rs : List (List ℕ)) : Type 0 where
  fast : PidList
  slow : PidList
  requests : ℕ
  fast_turns : Live f → Turns f fast
  slow_turns : Live l → Turns l slow
  enough : wanted st nofast ≤ requests + (stretch st nofast - 1)
  tests : Tests st nofast (firstly nofast fast) (next_of fast).list slow requests rs

module _ (st : Settings) (nofast : Bool) (f l : PidList) where
  later : (k n : ℕ) (x y : PidList) {rs : List (List ℕ)} → (Live f → Turns f x) → (Live l → Turns l y) → wanted st nofast ≤ n + (stretch st nofast - 1)
      → Tests st nofast (firstly nofast x) (next_of x).list y n rs → Later st nofast f l (drop k rs)
  later zero n x y v w o t = record { fast = x; slow = y; requests = n; fast_turns = v; slow_turns = w; enough = o; tests = t }
  later (suc k) n x y v w o none = record { fast = x; slow = y; requests = n; fast_turns = v; slow_turns = w; enough = o; tests = none }
  later (suc k) n x y v w o (more (passed d e) t) = later k (counted nofast 0) (next_of x).list (next_of y).list (λ z. next_turns f x (v z)) (λ z. next_turns l y (w z)) (ready st nofast 0) t
  later (suc k) n x y v w o (more (unsent d e) t) = later k (counted nofast 0) (next_of x).list (next_of y).list (λ z. next_turns f x (v z)) (λ z. next_turns l y (w z)) (ready st nofast 0) t
  later (suc k) n x y v w o (more (failed d) t) = later k (counted nofast n) (next_of x).list y (λ z. next_turns f x (v z)) w (ready st nofast n) t

  from : (r : ℕ) (rs : List (List ℕ)) → Tests st nofast (firstly nofast f) (next_of f).list l (counted nofast r) rs → (k : ℕ) → Later st nofast f l (drop k rs)
  from r rs t k = later k (counted nofast r) f l (λ v. record { live = v; same = refl }) (λ v. record { live = v; same = refl }) (ready st nofast r) t

  -- As many passed tests as there are entries, each within a stretch.
  covers : (q : ℕ) (rs : List (List ℕ)) → Later st nofast f l rs → Live l → (st.mode ≡ 0 → ⊥) → st.ratio ≤ most → (n : ℕ) → length (entries l) ≡ n → 0 < times q (entries l)
      → n * stretch st nofast ≤ length rs → 0 < times q (joined (take (n * stretch st nofast) rs))
  unfolding picks times
  covers q rs w v m fits zero e some h = absurd (let a = rw e at (turns_picks l w.slow (w.slow_turns v) q) in omega arith)
  covers q rs w v m fits (suc n) e some h =
      let each = stretch st nofast in
      let s = suc-mul n each in
      let i = reach st nofast q m fits n (each - 1) w.requests (suc n * each) w.slow (w.slow_turns v).live w.tests w.enough (omega arith) h in
      let p = rw e at (turns_picks l w.slow (w.slow_turns v) q) in
      omega arith

  pub slow_covers : (r : ℕ) (rs : List (List ℕ)) → Tests st nofast (firstly nofast f) (next_of f).list l (counted nofast r) rs → (k q : ℕ)
      → Live l → (st.mode ≡ 0 → ⊥) → st.ratio ≤ most → k + length (entries l) * stretch st nofast ≤ length rs → 0 < times q (entries l)
      → 0 < times q (joined (take (length (entries l) * stretch st nofast) (drop k rs)))
  slow_covers r rs t k q v m fits h some = covers q (drop k rs) (from r rs t k) v m fits (length (entries l)) refl some (rw length-drop (omega arith))

pub fast_covers : (st : Settings) (f l : PidList) → Live f → (r : ℕ) (rs : List (List ℕ)) → Tests st false (firstly false f) (next_of f).list l (counted false r) rs → (k q : ℕ)
    → k + length (entries f) ≤ length rs → 0 < times q (entries f) → 0 < times q (joined (take (length (entries f)) (drop k rs)))
fast_covers st f l v r rs t k q h some =
    let w = from st false f l r rs t k in
    let a = fast_picks st q (length (entries f)) w.fast w.tests (rw length-drop (omega arith)) in
    omega (arith, turns_picks f w.fast (w.fast_turns v) q)
