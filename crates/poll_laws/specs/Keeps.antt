-- What `next` and `result` leave alone. What the other calls do stands in `poller`'s `Cases`.
use Rattle.std.specs.Prelude.{◌&&◌, ◌≡◌, refl, ℕ, eqb}
use Rattle.base.specs.Choice.{cases}
use Rattle.pid_list.specs.Members.{Sound, next_entries}
use Rattle.pid_list.specs.Robin.{next_sound}
use Rattle.pid_list.specs.Rules.{entries, found, next_of as nextPid}
use Rattle.plan.specs.Steps.{take_of}
use Rattle.plan.specs.declared.Chunk.{Chunk}
use Rattle.rounds.specs.Cases.{slow_not, slow_sent, slow_unsent, first_some, first_none, multi_end, multi_some, result_due_law}
use Rattle.rounds.specs.Next.{issue_of, end_of, slow_passes, slow_of, first_of, multi_of, step_in, next_of}
use Rattle.rounds.specs.Result.{round_after, result_of}
use Rattle.rounds.specs.declared.Outcome.{Outcome}
use Rattle.poller.specs.declared.Phase.{Phase}
use Rattle.poller.specs.declared.Phase.TheVariants.{Closed, First, FastDue, Test, SlowDue, Multi, MultiDue, Over}
use Rattle.poller.specs.declared.Poller.{Poller}

-- `next` moves indexes, counts and the round; the lists' PIDs, the connection, the ECU counts and the settings stay.
pub record Kept (p r : Poller) : Type 0 where
  pub fast_entries : entries r.fast ≡ entries p.fast
  pub slow_entries : entries r.slow ≡ entries p.slow
  pub fast_sound : Sound p.fast → Sound r.fast
  pub slow_sound : Sound p.slow → Sound r.slow
  pub link : r.link ≡ p.link
  pub counts : r.counts ≡ p.counts
  pub settings : r.settings ≡ p.settings

same : (p : Poller) → Kept p p
same p = record { fast_entries = refl; slow_entries = refl; fast_sound = λ s. s; slow_sound = λ s. s; link = refl; counts = refl; settings = refl }

-- A query issued, or the end, changes the round alone.
issue_kept : (p r : Poller) (x : Phase) (c : Chunk) → Kept p r → Kept p (issue_of r x c).poller
unfolding issue_of
issue_kept p r x c k = record {
  fast_entries = k.fast_entries;
  slow_entries = k.slow_entries;
  fast_sound = k.fast_sound;
  slow_sound = k.slow_sound;
  link = k.link;
  counts = k.counts;
  settings = k.settings;
}

end_kept : (p r : Poller) → Kept p r → Kept p (end_of r).poller
unfolding end_of
end_kept p r k = record {
  fast_entries = k.fast_entries;
  slow_entries = k.slow_entries;
  fast_sound = k.fast_sound;
  slow_sound = k.slow_sound;
  link = k.link;
  counts = k.counts;
  settings = k.settings;
}

slow_kept : (p : Poller) (t : ℕ) → Kept p (slow_of p t).poller
slow_kept p t =
    cases _ (slow_passes p t)
    (λ e. cases _ (found (nextPid p.slow) && p.link.connected)
    (λ f. rw (slow_sent p t e f) (issue_kept p _ SlowDue _ (record {
      fast_entries = refl;
      slow_entries = next_entries p.slow;
      fast_sound = λ s. s;
      slow_sound = next_sound p.slow;
      link = refl;
      counts = refl;
      settings = refl;
    })))
    (λ f. rw (slow_unsent p t e f) (end_kept p _ (record {
      fast_entries = refl;
      slow_entries = next_entries p.slow;
      fast_sound = λ s. s;
      slow_sound = next_sound p.slow;
      link = refl;
      counts = refl;
      settings = refl;
    }))))
    (λ e. rw (slow_not p t e) (end_kept p p (same p)))

first_kept : (p : Poller) (t : ℕ) → Kept p (first_of p t).poller
first_kept p t = cases _ (found (nextPid p.fast))
    (λ e. rw (first_some p t e) (issue_kept p _ FastDue _ (record {
      fast_entries = next_entries p.fast;
      slow_entries = refl;
      fast_sound = next_sound p.fast;
      slow_sound = λ s. s;
      link = refl;
      counts = refl;
      settings = refl;
    })))
    (λ e. rw (first_none p t e) (slow_kept p t))

multi_kept : (p : Poller) → Kept p (multi_of p).poller
multi_kept p = cases _ (eqb (take_of p.plan).chunk.count 0)
    (λ e. rw (multi_end p e) (end_kept p p (same p)))
    (λ e. rw (multi_some p e) (issue_kept p _ MultiDue _ (record {
      fast_entries = refl;
      slow_entries = refl;
      fast_sound = λ s. s;
      slow_sound = λ s. s;
      link = refl;
      counts = refl;
      settings = refl;
    })))

step_kept : (x : Phase) (p : Poller) (t : ℕ) → Kept p (step_in x p t).poller
step_kept Closed p t = end_kept p p (same p)
step_kept First p t = first_kept p t
step_kept FastDue p t = end_kept p p (same p)
step_kept Test p t = slow_kept p t
step_kept SlowDue p t = end_kept p p (same p)
step_kept Multi p t = multi_kept p
step_kept MultiDue p t = end_kept p p (same p)
step_kept Over p t = end_kept p p (same p)

pub next_kept : (p : Poller) (t : ℕ) → Kept p (next_of p t).poller
unfolding next_of
next_kept p t = step_kept p.round.phase p t

-- A result leaves the lists, the fast requests, the settings, the plan and whether the round began without a fast PID.
pub record Untouched (p r : Poller) : Type 0 where
  pub fast : r.fast ≡ p.fast
  pub slow : r.slow ≡ p.slow
  pub requests : r.requests ≡ p.requests
  pub settings : r.settings ≡ p.settings
  pub plan : r.plan ≡ p.plan
  pub nofast : r.round.nofast ≡ p.round.nofast

pub result_untouched : (p : Poller) (t : ℕ) (o : Outcome) → Untouched p (result_of p t o)
unfolding round_after
result_untouched p t o = rw (result_due_law p t o) (record { fast = refl; slow = refl; requests = refl; settings = refl; plan = refl; nofast = refl })
