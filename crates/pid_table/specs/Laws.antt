-- How the steps of registering and of maintenance follow upon each other at one entry: a PID that a profile
-- holds is left alone, and what is demoted is not removed.
use Rattle.std.specs.Prelude.{None, Option, Some, true, false, ◌≡◌, ℕ}
use Rattle.std.proofs.Math.Path.{refl}
use Rattle.std.proofs.Common.{◌∙◌}
use Rattle.base.specs.Choice.{pick, cases}
use Rattle.config.specs.declared.PidPriority.{PidPriority}
use Rattle.config.specs.declared.PidPriority.TheVariants.{Fast, Slow}
use Rattle.pid_table.specs.Entry.{with_priority, speed, is_fast, loose_of, idle_of, demotes_of, demoted_of, removed_of, registered_of, cleared_of}
use Rattle.pid_table.specs.declared.PidInfo.{PidInfo}

pub cleared_speed : (i : PidInfo) → speed (cleared_of i) ≡ speed i
unfolding speed cleared_of
cleared_speed i = refl

module _ (now : ℕ) (i : PidInfo) where
  pub unwanted_speed : speed (registered_of None now i) ≡ speed i
  unfolding speed registered_of
  unwanted_speed = refl

  pub wanted_pinned : (p : PidPriority) → (registered_of (Some p) now i).pinned ≡ true
  unfolding registered_of
  wanted_pinned p = cases _ i.tracked (λ e. rw e) (λ e. rw e)

twice_fast : (p q : PidPriority) → pick (is_fast p) Fast (pick (is_fast p) Fast q) ≡ pick (is_fast p) Fast q
unfolding is_fast
twice_fast Fast q = refl
twice_fast Slow q = refl

self_fast : (p : PidPriority) → pick (is_fast p) Fast p ≡ p
unfolding is_fast
self_fast Fast = refl
self_fast Slow = refl

-- Registering the same profiles again changes no speed.
pub again_speed : (w : Option PidPriority) (now then : ℕ) (i : PidInfo) → speed (registered_of w now (registered_of w then i)) ≡ speed (registered_of w then i)
unfolding speed registered_of
again_speed None now then i = refl
again_speed (Some p) now then i = cases _ i.tracked
    (λ e. rw e (rw (twice_fast p i.priority)))
    (λ e. rw e (rw (self_fast p)))

module _ (limit removal now : ℕ) (i : PidInfo) where
  pinned_loose : i.pinned ≡ true → loose_of i ≡ false
  unfolding loose_of
  pinned_loose e = cases _ i.tracked (λ f. rw (f, e)) (λ f. rw f)

  -- A pinned PID is neither demoted nor removed.
  pub pinned_kept : i.pinned ≡ true → removed_of removal now i ≡ i
  unfolding removed_of idle_of
  pinned_kept e = rw (pinned_loose e)

  pub pinned_stays : i.pinned ≡ true → demoted_of limit removal now i ≡ i
  unfolding demoted_of demotes_of idle_of
  pinned_stays e = rw (pinned_loose e)

  idle_slow : idle_of removal now (with_priority i Slow) ≡ idle_of removal now i
  unfolding idle_of loose_of
  idle_slow = refl

  demotes_wakes : demotes_of limit removal now i ≡ true → idle_of removal now i ≡ false
  unfolding demotes_of
  demotes_wakes e = cases _ (idle_of removal now i) (λ f. let g = rw f at e in cc) (λ f. f)

  -- What is demoted is not removed.
  pub demoted_kept : demotes_of limit removal now i ≡ true → removed_of removal now (demoted_of limit removal now i) ≡ demoted_of limit removal now i
  unfolding removed_of demoted_of
  demoted_kept e = rw e (rw (idle_slow ∙ demotes_wakes e))

  pub kept_same : demotes_of limit removal now i ≡ false → demoted_of limit removal now i ≡ i
  unfolding demoted_of
  kept_same e = rw e
