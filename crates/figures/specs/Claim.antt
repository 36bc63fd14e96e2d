-- THE FIGURES OF A REPORT, over every list of calls. This file holds definitions and the statement only.
--
-- What a report counts is read from the start, the accepted calls' arguments and the reports before it: which PIDs are known is as
-- agreement's claim reads the manager, and each report starts the counts anew.
use Rattle.std.specs.Prelude.{None, Option, Some, Bool, true, ◌&&◌, List, [], ◌∷◌, ◌≡◌, ℕ, ◌+◌, ◌-◌, ◌*◌, ◌<◌, ◌≤◌, eqb, ltb, leb, get_or}
use Rattle.agreement.specs.Claim.{Reading, read_call, read_start, box_after, read_after}
use Rattle.base.specs.Choice.{pick, one}
use Rattle.base.specs.Times.{times}
use Rattle.config.specs.declared.Profiles.{Profiles}
use Rattle.config.specs.declared.Settings.{Settings}
use Rattle.pid_table.specs.Entry.{nobody}
use Rattle.rate.specs.Rate.{f32, most_counted}
use Rattle.rate.specs.Within.{Within}
use Rattle.report.specs.Rates.{ratings}
use Rattle.report.specs.Sorted.{Each, Sorted, pids}
use Rattle.report.specs.declared.Rated.{Rated}
use Rattle.report.specs.declared.Report.{Report}
use Rattle.obd2.specs.Call.{Call, manager, cache, settings, take_control, link, round, ManagerCall, Register, Leave, Respond, Changed, Waiting, Consumed, Tick, time_of}
use Rattle.obd2.specs.History.{start_of, Event, event_of, happened, accepted, accepted_by}

-- What was counted since the last report, or the start: the Consumed of each PID, and the hits and misses of all.
pub record Tally : Type 0 where
  pub since : ℕ
  pub counted : ℕ → ℕ
  pub hits : ℕ
  pub misses : ℕ

abbrev pub none_since : ℕ → Tally
none_since t = record { since = t; counted = λ q. 0; hits = 0; misses = 0 }

abbrev pub known : Reading → ℕ → Bool
known r p = (get_or r.manager.table p nobody).tracked

-- "Consumed. Known PIDs only are marked and counted"; "Hits and misses count unknown PIDs too."
abbrev pub hit : Option ℕ → ℕ
hit None = 1
hit (Some wait) = 0

abbrev pub miss : Option ℕ → ℕ
miss None = 0
miss (Some wait) = 1

abbrev pub with_one : Reading → ℕ → Option ℕ → Tally → Tally
with_one r p w k = record {
  since = k.since;
  counted = λ q. k.counted q + one (eqb p q && known r p);
  hits = k.hits + hit w;
  misses = k.misses + miss w;
}

-- An accepted call.
unfoldable pub counted_by : Reading → Call → Tally → Tally
counted_by r (manager t Register) k = k
counted_by r (manager t (Leave c)) k = k
counted_by r (manager t (Respond x)) k = k
counted_by r (manager t (Changed ps)) k = k
counted_by r (manager t (Waiting p)) k = k
counted_by r (manager t (Consumed p w)) k = with_one r p w k
counted_by r (manager t Tick) k = k
counted_by r (cache t c) k = k
counted_by r (settings t st) k = k
counted_by r (take_control t) k = k
counted_by r (link t c) k = k
counted_by r (round t c) k = k

-- The counts over a history, with the manager that is read on the way: a call's own Consumed is in its report, and behind a report
-- they start anew.
abbrev pub counted_at : Reading → Event → Tally → Tally
counted_at r e k = pick e.details.report.ran (none_since (time_of e.call)) (counted_by r e.call k)

unfoldable pub tally : Reading → Tally → List Event → Tally
tally r k [] = k
tally r k (e ∷ es) = pick (accepted e) (tally (read_call r e.call) (counted_at r e k) es) (tally r k es)

-- Since a start, refused or not.
abbrev pub start_tally : ℕ → Settings → Profiles → Tally
start_tally t st ps = none_since (pick (accepted_by (start_of t st ps).answer) t 0)

abbrev pub tally_after : ℕ → Settings → Profiles → List Call → Tally
tally_after t st ps cs =
    tally (read_start t st ps (start_of t st ps).answer) (start_tally t st ps) (happened (start_of t st ps).state cs)

-- Of a report at a time, with what was counted for it: "each PID still tracked with a counted Consumed since the last one .., highest
-- first, equal rates by rising PID"; the rate "differs from 1,000 × count / elapsed by at most one part in 4,194,304", and the hit
-- rate from 100 × hits / total by as much. No count is above 16,777,215.
pub record Figures (k : Tally) (after : Reading) (now : ℕ) (r : Report) : Type 0 where
  pub elapsed : 2000 ≤ now - k.since
  pub listed : (q : ℕ) → times q (pids (ratings r.rates)) ≡ one (known after q && ltb 0 (k.counted q))
  pub sorted : Sorted (ratings r.rates)
  pub rates : Each (λ (y : Rated). Within 4194304 y.rate (1000 * k.counted y.pid) (now - k.since)) (ratings r.rates)
  pub hits : r.metrics.hits ≡ k.hits
  pub misses : r.metrics.misses ≡ k.misses
  pub hit_rate : 0 < k.hits + k.misses → Within 4194304 r.hitrate (100 * k.hits) (k.hits + k.misses)
  pub no_hit_rate : k.hits + k.misses ≡ 0 → r.hitrate ≡ f32 0
  pub few : k.hits + k.misses ≤ most_counted
  pub counts : (q : ℕ) → k.counted q ≤ k.hits + k.misses

-- EVERY REPORT of every list of calls: that of a call c after the calls cs.
pub record Claim : Type 0 where
  pub figures : (t : ℕ) (st : Settings) (ps : Profiles) (cs : List Call) (c : Call)
      → let e = event_of (box_after t st ps cs) c in
      let r = read_after t st ps cs in
      e.details.report.ran ≡ true → Figures (counted_by r c (tally_after t st ps cs)) (read_call r c) (time_of c) e.details.report
  -- and it comes with each accepted call of the manager 2,000 or more after the last
  pub due : (t : ℕ) (st : Settings) (ps : Profiles) (cs : List Call) (u : ℕ) (c : ManagerCall)
      → let e = event_of (box_after t st ps cs) (manager u c) in
      accepted e ≡ true → e.details.report.ran ≡ leb 2000 (u - (tally_after t st ps cs).since)
