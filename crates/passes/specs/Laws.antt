-- Passes one after the other: what they make of the table, what they tell, that what they tell makes of each
-- PID's speed what the table has, and how much they tell at most.
use Rattle.std.specs.Prelude.{None, Option, Some, true, ◌≡◌, length, get_or}
use mathlib.Core.List.{List, [], ◌∷◌, ◌++◌, append_assoc}
use Rattle.std.proofs.Math.Path.{refl}
use Rattle.std.proofs.Common.{ap, sym, ◌∙◌, length-append, ne_eqb}
use Prim.Native.Nat.{ℕ, zero, suc, ◌+◌, ◌<◌, ◌≤◌}
use native.Mathlib.Omega.{arith}
use Rattle.base.specs.Choice.{cases}
use Rattle.config.specs.InForce.{in_force}
use Rattle.control.specs.Speed.{Speed, after_all, after_append}
use Rattle.control.specs.Outbox.{send_all, send_append, send_none}
use Rattle.control.specs.Told.{told_of, told_same, told_length, told_own, told_other}
use Rattle.config.specs.declared.PidPriority.{PidPriority}
use Rattle.pid_table.specs.Entry.{nobody, speed, registered_of, demotes_of, demoted_of, removed_of, cleared_of}
use Rattle.pid_table.specs.Laws.{cleared_speed, unwanted_speed, wanted_pinned, again_speed, pinned_kept, pinned_stays, demoted_kept, kept_same}
use Rattle.pid_table.specs.declared.PidInfo.{PidInfo}
use Rattle.passes.specs.Wishes.{wish_of}
use Rattle.passes.specs.Sweep.{entry_after, swept, tidings, sweep_of, through, news, sweeps_of, upkeep, swept_length, swept_at, entry_through, speed_at, changes}
use Rattle.passes.specs.declared.Ledger.{Ledger}
use Rattle.passes.specs.declared.Terms.{Terms}
use Rattle.passes.specs.declared.Pass.{Pass}
use Rattle.passes.specs.declared.Pass.TheVariants.{Register, Demote, Remove, Clear}

pub sweeps_are : (t : Terms) (ps : List Pass) (l : Ledger)
    → sweeps_of t ps l ≡ record { table = through t ps l.table; outbox = send_all l.outbox (news t ps l.table) }
unfolding sweeps_of through news sweep_of
sweeps_are t [] l = rw (send_none l.outbox)
sweeps_are t (a ∷ ps) l =
    sweeps_are t ps (sweep_of (entry_after a t) l)
    ∙ rw (send_append l.outbox (tidings (entry_after a t) 0 l.table) (news t ps (swept (entry_after a t) 0 l.table)))

pub through_length : (t : Terms) (ps : List Pass) (xs : List PidInfo) → length (through t ps xs) ≡ length xs
unfolding through
through_length t [] xs = refl
through_length t (a ∷ ps) xs = through_length t ps (swept (entry_after a t) 0 xs) ∙ swept_length (entry_after a t) 0 xs

pub through_at : (t : Terms) (ps : List Pass) (xs : List PidInfo) (q : ℕ) (d : PidInfo) → q < length xs
    → get_or (through t ps xs) q d ≡ entry_through t ps q (get_or xs q d)
unfolding through entry_through
through_at t [] xs q d h = refl
through_at t (a ∷ ps) xs q d h =
    let f = entry_after a t in
    let n = swept_length f 0 xs in
    let e : 0 + q ≡ q = omega arith in
    rw (through_at t ps (swept f 0 xs) q d (omega arith), swept_at f 0 xs q d h, e)

pub news_append : (t : Terms) (ps bs : List Pass) (xs : List PidInfo) → news t (ps ++ bs) xs ≡ news t ps xs ++ news t bs (through t ps xs)
unfolding news through
news_append t [] bs xs = refl
news_append t (a ∷ ps) bs xs =
    rw (news_append t ps bs (swept (entry_after a t) 0 xs))
    (sym (append_assoc (tidings (entry_after a t) 0 xs) (news t ps (swept (entry_after a t) 0 xs)) (news t bs (through t ps (swept (entry_after a t) 0 xs)))))

-- ---- the speeds

module _ (f : ℕ → PidInfo → PidInfo) where
  quiet : (p : ℕ) (xs : List PidInfo) (q : ℕ) (s : Speed) → q < p → after_all (tidings f p xs) q s ≡ s
  unfolding tidings after_all
  quiet p [] q s h = refl
  quiet p (x ∷ xs) q s h =
      after_append (told_of p (speed x) (speed (f p x))) (tidings f (suc p) xs) q s
      ∙ rw (told_other p q (speed x) (speed (f p x)) s (ne_eqb p q (λ e. omega arith))) (quiet (suc p) xs q s (omega arith))

  speeds_from : (p : ℕ) (xs : List PidInfo) (j : ℕ)
      → after_all (tidings f p xs) (p + j) (speed (get_or xs j nobody)) ≡ speed (get_or (swept f p xs) j nobody)
  unfolding tidings swept after_all
  speeds_from p [] j = refl
  speeds_from p (x ∷ xs) zero =
      let e : p + 0 ≡ p = omega arith in
      rw (e, after_append (told_of p (speed x) (speed (f p x))) (tidings f (suc p) xs) p (speed x), told_own p (speed x) (speed (f p x)))
      (quiet (suc p) xs p (speed (f p x)) (omega arith))
  speeds_from p (x ∷ xs) (suc j) =
      let e : p + suc j ≡ suc p + j = omega arith in
      let s = speed (get_or xs j nobody) in
      rw (after_append (told_of p (speed x) (speed (f p x))) (tidings f (suc p) xs) (p + suc j) s, told_other p (p + suc j) (speed x) (speed (f p x)) s (ne_eqb p (p + suc j) (λ z. omega arith)))
      (rw e (speeds_from (suc p) xs j))

  pub sweep_speeds : (xs : List PidInfo) (q : ℕ) → after_all (tidings f 0 xs) q (speed_at xs q) ≡ speed_at (swept f 0 xs) q
  unfolding speed_at
  sweep_speeds xs q = let e : 0 + q ≡ q = omega arith in rw e at (speeds_from 0 xs q)

-- What passes tell makes of each PID's speed by the table before what it is by the table after.
pub news_speeds : (t : Terms) (ps : List Pass) (xs : List PidInfo) (q : ℕ) → after_all (news t ps xs) q (speed_at xs q) ≡ speed_at (through t ps xs) q
unfolding news through after_all
news_speeds t [] xs q = refl
news_speeds t (a ∷ ps) xs q =
    after_append (tidings (entry_after a t) 0 xs) (news t ps (swept (entry_after a t) 0 xs)) q (speed_at xs q)
    ∙ rw (sweep_speeds (entry_after a t) xs q) (news_speeds t ps (swept (entry_after a t) 0 xs) q)

-- ---- how many messages

-- How often passes tell of the entries from PID p on.
all_news : Terms → List Pass → ℕ → List PidInfo → ℕ
all_news t [] p xs = 0
all_news t (a ∷ ps) p xs = length (tidings (entry_after a t) p xs) + all_news t ps p (swept (entry_after a t) p xs)

all_cons : (t : Terms) (ps : List Pass) (p : ℕ) (x : PidInfo) (xs : List PidInfo) → all_news t ps p (x ∷ xs) ≡ changes t ps p x + all_news t ps (suc p) xs
unfolding all_news changes tidings swept
all_cons t [] p x xs = omega arith
all_cons t (a ∷ ps) p x xs =
    let f = entry_after a t in
    omega (arith, length-append (told_of p (speed x) (speed (f p x))) (tidings f (suc p) xs), all_cons t ps p (f p x) (swept f (suc p) xs))

all_nil : (t : Terms) (ps : List Pass) (p : ℕ) → all_news t ps p [] ≡ 0
unfolding all_news tidings swept
all_nil t [] p = refl
all_nil t (a ∷ ps) p = omega (arith, all_nil t ps p)

all_few : (t : Terms) (ps : List Pass) (p : ℕ) (xs : List PidInfo) → ((q : ℕ) (x : PidInfo) → changes t ps q x ≤ 1) → all_news t ps p xs ≤ length xs
all_few t ps p [] h = omega (arith, all_nil t ps p)
all_few t ps p (x ∷ xs) h = omega (arith, all_cons t ps p x xs, h p x, all_few t ps (suc p) xs h)

news_length : (t : Terms) (ps : List Pass) (xs : List PidInfo) → length (news t ps xs) ≡ all_news t ps 0 xs
unfolding news all_news
news_length t [] xs = refl
news_length t (a ∷ ps) xs =
    let f = entry_after a t in
    omega (arith, length-append (tidings f 0 xs) (news t ps (swept f 0 xs)), news_length t ps (swept f 0 xs))

-- Passes that tell of each entry at most once tell no more than the table has entries.
pub news_few : (t : Terms) (ps : List Pass) (xs : List PidInfo) → ((q : ℕ) (x : PidInfo) → changes t ps q x ≤ 1) → length (news t ps xs) ≤ length xs
news_few t ps xs h = omega (arith, news_length t ps xs, all_few t ps 0 xs h)

-- No message where no speed changes.
silent : (p : ℕ) (s t : Speed) → s ≡ t → length (told_of p s t) ≡ 0
silent p s t e = rw (e, told_same p t)

module _ (t : Terms) (p : ℕ) where
  clear_silent : (x : PidInfo) → changes t (Clear ∷ []) p x ≡ 0
  unfolding changes entry_after
  clear_silent x = omega (arith, silent p (speed x) (speed (cleared_of x)) (sym (cleared_speed x)))

  unpinned_once : (x : PidInfo) → changes t (Demote ∷ Remove ∷ Clear ∷ []) p x ≤ 1
  unfolding changes entry_after
  unpinned_once x =
      let limit = t.settings.demotion in
      let removal = t.settings.removal in
      let now = t.now in
      let d = demoted_of limit removal now x in
      cases _ (demotes_of limit removal now x)
      (λ e. omega (arith, told_length p (speed x) (speed d), silent p (speed d) (speed (removed_of removal now d)) (ap speed (sym (demoted_kept limit removal now x e))), clear_silent (removed_of removal now d)))
      (λ e. omega (arith, silent p (speed x) (speed d) (ap speed (sym (kept_same limit removal now x e))), told_length p (speed d) (speed (removed_of removal now d)), clear_silent (removed_of removal now d)))

  pinned_silent : (x : PidInfo) → x.pinned ≡ true → changes t (Demote ∷ Remove ∷ Clear ∷ []) p x ≡ 0
  unfolding changes entry_after
  pinned_silent x e =
      let limit = t.settings.demotion in
      let removal = t.settings.removal in
      let now = t.now in
      rw (pinned_stays limit removal now x e, pinned_kept limit removal now x e)
      (omega (arith, silent p (speed x) (speed x) refl, clear_silent x))

  -- Registering before it: what is unwanted keeps its speed, and what is wanted is pinned.
  upkeep_cases : (w : Option PidPriority) → wish_of (in_force t.profiles) p ≡ w → (x : PidInfo) → changes t (upkeep ++ Clear ∷ []) p x ≤ 1
  unfolding changes entry_after
  upkeep_cases None e x =
      let y = registered_of None t.now x in
      rw e (omega (arith, silent p (speed x) (speed y) (sym (unwanted_speed t.now x)), unpinned_once y))
  upkeep_cases (Some w) e x =
      let y = registered_of (Some w) t.now x in
      rw e (omega (arith, told_length p (speed x) (speed y), pinned_silent y (wanted_pinned t.now x w)))

  register_cases : (w : Option PidPriority) → wish_of (in_force t.profiles) p ≡ w → (x : PidInfo) → changes t (Register ∷ upkeep ++ Clear ∷ []) p x ≤ 1
  unfolding changes entry_after
  register_cases None e x =
      let y = registered_of None t.now x in
      rw e (omega (arith, silent p (speed x) (speed y) (sym (unwanted_speed t.now x)), rw e at (upkeep_cases None e y)))
  register_cases (Some w) e x =
      let y = registered_of (Some w) t.now x in
      let z = registered_of (Some w) t.now y in
      rw e (omega (arith, told_length p (speed x) (speed y), silent p (speed y) (speed z) (sym (again_speed (Some w) t.now t.now x)), pinned_silent z (wanted_pinned t.now y w)))

  -- Maintenance tells of a PID at most once, and so do registering and maintenance right after it.
  pub upkeep_once : (x : PidInfo) → changes t (upkeep ++ Clear ∷ []) p x ≤ 1
  upkeep_once x = upkeep_cases (wish_of (in_force t.profiles) p) refl x

  pub register_once : (x : PidInfo) → changes t (Register ∷ upkeep ++ Clear ∷ []) p x ≤ 1
  register_once x = register_cases (wish_of (in_force t.profiles) p) refl x

  -- Registering alone does.
  pub registering_once : (x : PidInfo) → changes t (Register ∷ []) p x ≤ 1
  unfolding changes
  registering_once x = omega (arith, told_length p (speed x) (speed (entry_after Register t p x)))
