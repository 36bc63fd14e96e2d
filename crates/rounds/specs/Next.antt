-- What a round asks next, and its end: document 01, "Rounds (poller)", third to fifth paragraph.
use Rattle.std.specs.Prelude.{ℕ, ◌-◌, Bool, ◌&&◌, ◌||◌, [], ◌∷◌, ◌==◌, nat_le, slice_index}
use Rattle.base.specs.Choice.{pick}
use Rattle.base.specs.Count.{more_of}
use Rattle.config.specs.declared.Settings.{Settings}
use Rattle.pid_list.specs.Rules.{found, pid_of, next_of as nextPid}
use Rattle.plan.specs.Steps.{chunk_of, take_of}
use Rattle.plan.specs.declared.Chunk.{Chunk}
use Rattle.poller.specs.State.{closed_round, with_fast, with_slow, with_round, with_plan}
use Rattle.poller.specs.declared.Phase.{Phase}
use Rattle.poller.specs.declared.Phase.TheVariants.{Closed, First, FastDue, Test, SlowDue, Multi, MultiDue, Over}
use Rattle.poller.specs.declared.Poller.{Poller}
use Rattle.rounds.specs.declared.Step.{Step}
use Rattle.rounds.specs.declared.Stepped.{Stepped}

-- A query names its PIDs and the ECU count kept then. The PIDs of a chunk have one count, that of the first.
unfoldable pub issue_of : Poller → Phase → Chunk → Stepped
issue_of p phase c = record {
  poller = with_round p (record {
    phase = phase;
    nofast = p.round.nofast;
    issued = more_of p.round.issued;
    due = record { pids = c.pids; count = c.count; ecu = slice_index p.counts (slice_index c.pids 0) };
  });
  step = Step.Ask;
}

-- The end gives the number of queries issued.
unfoldable pub end_of : Poller → Stepped
end_of p = record { poller = with_round p closed_round; step = Step.End p.round.issued }

-- The slow test. Interval: at >= interval since the last slow poll. Ratio: at >= ratio fast requests, and always in a round that
-- began with an empty fast list (document 02, A2).
unfoldable pub slow_due : Settings → Bool → ℕ → ℕ → ℕ → Bool
slow_due s nofast t clock requests = pick (s.mode == 0) (nat_le s.interval (t - clock)) (nofast || nat_le s.ratio requests)

-- The test of an open round: by the settings and the fast list of its begin, the slow clock and the fast requests.
abbrev pub slow_passes : Poller → ℕ → Bool
slow_passes p t = slow_due p.settings p.round.nofast t p.clock p.requests

-- A passed test starts the fast requests anew and moves the slow index. Where nothing is sent, it sets the slow clock.
unfoldable pub slow_of : Poller → ℕ → Stepped
slow_of p t =
    pick (slow_passes p t)
    (pick (found (nextPid p.slow) && p.link.connected)
    (issue_of (with_slow p (nextPid p.slow).list p.clock 0) SlowDue (chunk_of (pid_of (nextPid p.slow) ∷ [])))
    (end_of (with_slow p (nextPid p.slow).list t 0)))
    (end_of p)

-- The next fast PID; the slow test where there is none.
unfoldable pub first_of : Poller → ℕ → Stepped
first_of p t =
    pick (found (nextPid p.fast))
    (issue_of (with_fast p (nextPid p.fast).list (more_of p.requests)) FastDue (chunk_of (pid_of (nextPid p.fast) ∷ [])))
    (slow_of p t)

-- The next query of the plan, till there is none.
unfoldable pub multi_of : Poller → Stepped
multi_of p =
    pick ((take_of p.plan).chunk.count == 0)
    (end_of p)
    (issue_of (with_plan p (take_of p.plan).plan) MultiDue (take_of p.plan).chunk)

-- A round that is over ends. Where none is open or a result is due the box refuses by 13 and does not come here: that the
-- definition ends the round there too says nothing of the box.
abbrev pub step_in : Phase → Poller → ℕ → Stepped
step_in Closed p t = end_of p
step_in First p t = first_of p t
step_in FastDue p t = end_of p
step_in Test p t = slow_of p t
step_in SlowDue p t = end_of p
step_in Multi p t = multi_of p
step_in MultiDue p t = end_of p
step_in Over p t = end_of p

unfoldable pub next_of : Poller → ℕ → Stepped
next_of p t = step_in p.round.phase p t
