-- A control message does to the two lists what it says of its PID's speed.
use Rattle.std.specs.Prelude.{ℕ, ◌<◌, eqb}
use Rattle.base.specs.Choice.{cases}
use Rattle.config.specs.declared.PidPriority.TheVariants.{Fast, Slow}
use Rattle.control.specs.Speed.{untracked, Speed, named, after, Listed, Agree}
use Rattle.control.specs.declared.DongleMessage.{DongleMessage}
use Rattle.control.specs.declared.DongleMessage.TheVariants.{SetPidPriority, RemovePid}
use Rattle.pid_list.specs.Members.{Sound, empty_sound, empty_times, remove_times, remove_sound, set_times, set_sound}
use Rattle.pid_list.specs.Rules.{entries, empty_list}
use Rattle.pid_list.specs.declared.PidList.{PidList}
use Rattle.poller.specs.Calls.{applied_of}

-- Both lists are as the calls leave them.
pub record Both (f s : PidList) : Type 0 where
  pub fast_sound : Sound f
  pub slow_sound : Sound s

module _ (f s : PidList) (sound : Both f s) where
  pub applied_sound : (m : DongleMessage) → named m < 256 → Both (applied_of f s m).fast (applied_of f s m).slow
  unfolding applied_of
  applied_sound (SetPidPriority p Fast) h = record { fast_sound = set_sound f p sound.fast_sound h; slow_sound = remove_sound s p sound.slow_sound }
  applied_sound (SetPidPriority p Slow) h = record { fast_sound = remove_sound f p sound.fast_sound; slow_sound = set_sound s p sound.slow_sound h }
  applied_sound (RemovePid p) h = record { fast_sound = remove_sound f p sound.fast_sound; slow_sound = remove_sound s p sound.slow_sound }

  -- Of every PID the lists say what the message, after all before it, says.
  pub applied_listed : (m : DongleMessage) → named m < 256 → (q : ℕ) (x : Speed) → Listed (entries f) (entries s) q x
      → Listed (entries (applied_of f s m).fast) (entries (applied_of f s m).slow) q (after m q x)
  unfolding applied_of after
  applied_listed (SetPidPriority p Fast) h q x l = cases _ (eqb p q)
      (λ e. record { in_fast_law = rw (set_times f p sound.fast_sound h q, e); in_slow_law = rw (remove_times s p sound.slow_sound q, e) })
      (λ e. record { in_fast_law = rw (set_times f p sound.fast_sound h q, e) l.in_fast_law; in_slow_law = rw (remove_times s p sound.slow_sound q, e) l.in_slow_law })
  applied_listed (SetPidPriority p Slow) h q x l = cases _ (eqb p q)
      (λ e. record { in_fast_law = rw (remove_times f p sound.fast_sound q, e); in_slow_law = rw (set_times s p sound.slow_sound h q, e) })
      (λ e. record { in_fast_law = rw (remove_times f p sound.fast_sound q, e) l.in_fast_law; in_slow_law = rw (set_times s p sound.slow_sound h q, e) l.in_slow_law })
  applied_listed (RemovePid p) h q x l = cases _ (eqb p q)
      (λ e. record { in_fast_law = rw (remove_times f p sound.fast_sound q, e); in_slow_law = rw (remove_times s p sound.slow_sound q, e) })
      (λ e. record { in_fast_law = rw (remove_times f p sound.fast_sound q, e) l.in_fast_law; in_slow_law = rw (remove_times s p sound.slow_sound q, e) l.in_slow_law })

  pub applied_agree : (m : DongleMessage) → named m < 256 → (speeds : ℕ → Speed) → Agree (entries f) (entries s) speeds
      → Agree (entries (applied_of f s m).fast) (entries (applied_of f s m).slow) (λ q. after m q (speeds q))
  applied_agree m h speeds a q = applied_listed m h q (speeds q) (a q)

-- At the start both lists are empty, and no PID is tracked.
pub start_both : Both empty_list empty_list
start_both = record { fast_sound = empty_sound; slow_sound = empty_sound }

pub start_agree : Agree (entries empty_list) (entries empty_list) (λ q. untracked)
start_agree q = record { in_fast_law = empty_times q; in_slow_law = empty_times q }
