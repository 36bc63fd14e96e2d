-- The speed of an entry, and when two entries have the same, case by case.
use Rattle.std.specs.Prelude.{true, false, ◌≡◌, refl, ℕ}
use Rattle.std.proofs.Common.{sym}
use mathlib.Core.Bool.{beq}
use Rattle.base.specs.Choice.{cases}
use Rattle.config.specs.declared.PidPriority.{PidPriority}
use Rattle.config.specs.declared.PidPriority.TheVariants.{Fast, Slow}
use Rattle.control.specs.Speed.{untracked, speed_of}
use Rattle.control.specs.Told.{same_speed, message_of}
use Rattle.control.specs.declared.DongleMessage.TheVariants.{SetPidPriority}
use Rattle.pid_table.specs.Entry.{speed, is_fast}
use Rattle.pid_table.specs.declared.PidInfo.{PidInfo}

pub speed_untracked : (i : PidInfo) → i.tracked ≡ false → speed i ≡ untracked
unfolding speed
speed_untracked i e = rw e

pub speed_tracked : (i : PidInfo) → i.tracked ≡ true → speed i ≡ speed_of i.priority
unfolding speed
speed_tracked i e = rw e

same_as : (p q : PidPriority) → beq (is_fast p) (is_fast q) ≡ same_speed (speed_of p) (speed_of q)
unfolding is_fast
same_as Fast Fast = refl
same_as Fast Slow = refl
same_as Slow Fast = refl
same_as Slow Slow = refl

gone_differs : (p : PidPriority) → same_speed (speed_of p) untracked ≡ false
gone_differs Fast = refl
gone_differs Slow = refl

new_differs : (p : PidPriority) → same_speed untracked (speed_of p) ≡ false
new_differs Fast = refl
new_differs Slow = refl

-- Both tracked: by their priorities. Else: by whether they are tracked.
module _ (a b : PidInfo) where
  pub same_tracked : a.tracked ≡ true → b.tracked ≡ true → beq (is_fast a.priority) (is_fast b.priority) ≡ same_speed (speed a) (speed b)
  same_tracked e f = rw (speed_tracked a e, speed_tracked b f) (same_as a.priority b.priority)

  pub same_gone : b.tracked ≡ false → beq a.tracked b.tracked ≡ same_speed (speed a) (speed b)
  same_gone f = cases _ a.tracked
      (λ e. rw (speed_tracked a e, speed_untracked b f, e, f) (sym (gone_differs a.priority)))
      (λ e. rw (speed_untracked a e, speed_untracked b f, e, f))

  pub same_new : a.tracked ≡ false → beq a.tracked b.tracked ≡ same_speed (speed a) (speed b)
  same_new e = cases _ b.tracked
      (λ f. rw (speed_untracked a e, speed_tracked b f, e, f) (sym (new_differs b.priority)))
      (λ f. rw (speed_untracked a e, speed_untracked b f, e, f))

pub message_tracked : (n : ℕ) (p : PidPriority) → message_of n (speed_of p) ≡ SetPidPriority n p
message_tracked n Fast = refl
message_tracked n Slow = refl
