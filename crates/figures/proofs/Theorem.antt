-- The claim, proved: one law a call, then every list of calls.
use Rattle.std.specs.Prelude.{true, false, ◌≡◌, ℕ, ◌-◌, eqb, leb}
use mathlib.Core.List.{List, [], ◌∷◌}
use Rattle.std.proofs.Math.Path.{refl}
use Rattle.std.proofs.Common.{ap, sym, ◌∙◌, arith, eqb-true}
use Rattle.agreement.specs.Claim.{read_call, box_after, read_after}
use Rattle.agreement.proofs.ReadOff.{read_off, done_read, start_read, box_read}
use Rattle.base.specs.Choice.{pick, cases, false_true}
use Rattle.base.specs.Refusal.{not_here}
use Rattle.config.specs.Blank.{no_profiles}
use Rattle.config.specs.Defaults.{default_settings}
use Rattle.config.specs.declared.Profiles.{Profiles}
use Rattle.config.specs.declared.Settings.{Settings}
use Rattle.manager.specs.Calls.{registering, due_of, no_table, register_of, start_of as startManager, after as noting, handle_of}
use Rattle.manager.specs.Laws.{no_whole}
use Rattle.manager.specs.Reported.{finish_reports}
use Rattle.passes.specs.Laws.{through_length}
use Rattle.passes.specs.declared.Terms.{Terms}
use Rattle.pid_table.specs.declared.PidInfo.{PidInfo}
use Rattle.report.specs.Metrics.{refused_of}
use Rattle.report.specs.Report.{no_report}
use Rattle.obd2.specs.Accepted.{accepted_time, manager_free}
use Rattle.obd2.specs.Call.{Call, manager, cache, settings, take_control, link, round, ManagerCall, Register, Leave, Respond, Changed, Waiting, Consumed, Tick, Ask, Collect, GiveUp, Connect, Fail, Check, Begin, Next, Result, time_of}
use Rattle.obd2.specs.Done.{manager_by, cache_by, link_by, round_by, done_of}
use Rattle.obd2.specs.History.{start_of, refused, step, run, event_of, happened, accepted}
use Rattle.obd2.specs.Keeps.{after, step_done, accepted_free}
use Rattle.obd2.specs.Refusals.{start_refusal, manager_rows, refusal_of}
use Rattle.obd2.specs.State.{managed, started}
use Rattle.obd2.specs.declared.State.{State}
use Rattle.figures.specs.Claim.{Tally, none_since, counted_by, tally, start_tally, tally_after, Figures, Claim}
use Rattle.figures.specs.Counts.{entry, Blank, Counted, registered_table, none_counted}
use Rattle.figures.proofs.Reports.{changed_counted, waiting_counted, consumed_counted, noting_last, finish_counted, report_figures}

-- ---- one law a call

module _ (s : State) (k : Tally) (g : Counted s.manager k) where
  abbrev terms_of : ℕ → ManagerCall → Terms
  terms_of t c = record { profiles = (manager_by s c).profiles; settings = s.settings; now = t }

  -- The manager behind a call's event.
  event_counted : (t : ℕ) (c : ManagerCall) → refusal_of s (manager t c) ≡ 0
      → Counted (noting s.manager (terms_of t c) (manager_by s c).event) (counted_by (read_off s) (manager t c) k)
  unfolding manager_by counted_by manager_rows noting
  event_counted t Register e = g
  event_counted t (Leave c) e = g
  event_counted t (Respond r) e = g
  event_counted t (Changed ps) e = changed_counted s.manager k g (terms_of t (Changed ps))
  event_counted t (Waiting p) e = waiting_counted s.manager k g (terms_of t (Waiting p)) p
  event_counted t (Consumed p w) e =
      consumed_counted (read_off s) k g (terms_of t (Consumed p w)) p w (not_here 4 (refused_of s.manager.metrics w) [] (λ z. omega arith) (manager_free s t (Consumed p w) e))
  event_counted t Tick e = g

  pub done_counted : (c : Call) → refusal_of s c ≡ 0
      → Counted (after s c).manager (pick (done_of s c).details.report.ran (none_since (time_of c)) (counted_by (read_off s) c k))
  unfolding done_of managed handle_of cache_by link_by round_by counted_by no_report
  done_counted (manager t c) e = finish_counted (noting s.manager (terms_of t c) (manager_by s c).event) (counted_by (read_off s) (manager t c) k) (event_counted t c e) _ (terms_of t c)
  done_counted (cache t (Ask c cmd area)) e = g
  done_counted (cache t (Collect c area)) e = g
  done_counted (cache t (GiveUp c)) e = g
  done_counted (settings t st) e = g
  done_counted (take_control t) e = g
  done_counted (link t (Connect x)) e = g
  done_counted (link t Fail) e = g
  done_counted (link t Check) e = g
  done_counted (round t Begin) e = g
  done_counted (round t Next) e = g
  done_counted (round t (Result o)) e = g

  -- The report of an accepted call.
  done_figures : (c : Call) → refusal_of s c ≡ 0 → (done_of s c).details.report.ran ≡ true
      → Figures (counted_by (read_off s) c k) (read_off (after s c)) (time_of c) (done_of s c).details.report
  unfolding done_of managed handle_of cache_by link_by round_by no_report
  done_figures (manager t c) e h =
      let m = noting s.manager (terms_of t c) (manager_by s c).event in
      report_figures m (counted_by (read_off s) (manager t c) k) (event_counted t c e) _ (terms_of t c) (sym (finish_reports m _ (terms_of t c)) ∙ h) (accepted_time s (manager t c) e).1
      (read_off (after s (manager t c))) refl
  done_figures (cache t (Ask c cmd area)) e h = false_true h
  done_figures (cache t (Collect c area)) e h = false_true h
  done_figures (cache t (GiveUp c)) e h = false_true h
  done_figures (settings t st) e h = false_true h
  done_figures (take_control t) e h = false_true h
  done_figures (link t (Connect x)) e h = false_true h
  done_figures (link t Fail) e h = false_true h
  done_figures (link t Check) e h = false_true h
  done_figures (round t Begin) e h = false_true h
  done_figures (round t Next) e h = false_true h
  done_figures (round t (Result o)) e h = false_true h

-- ---- every list of calls

step_refused : (s : State) (c : Call) → eqb (refusal_of s c) 0 ≡ false → step s c ≡ refused s (refusal_of s c)
unfolding step
step_refused s c e = rw e

run_counted : (cs : List Call) (s : State) (k : Tally) → Counted s.manager k → Counted (run s cs).manager (tally (read_off s) k (happened s cs))
unfolding tally happened run
run_counted [] s k g = g
run_counted (c ∷ cs) s k g = cases _ (eqb (refusal_of s c) 0)
    (λ e. let z = eqb-true (refusal_of s c) 0 e in
    rw (run, step_done s c z, done_read s c z) (run_counted cs (after s c) _ (done_counted s k g c z)))
    (λ e. rw (run, step_refused s c e) (run_counted cs s k g))

start_with : (t : Terms) → Counted (startManager t).manager (none_since t.now)
unfolding startManager register_of
start_with t =
    let b : (q : ℕ) → Blank (entry no_table q) = λ q. rw (none_counted q) (λ e. refl) in
    record {
      whole = through_length t registering no_table ∙ no_whole;
      last = refl;
      counts = λ q. (registered_table t no_table q (b q)).count ∙ ap (λ (x : PidInfo). x.count) (none_counted q);
      blank = λ q. (registered_table t no_table q (b q)).blank;
      hits = refl;
      misses = refl;
      few = omega arith;
      each = λ q. omega arith;
    }

start_counted : (t : ℕ) (st : Settings) (ps : Profiles) → Counted (start_of t st ps).state.manager (start_tally t st ps)
unfolding start_of started
start_counted t st ps = cases _ (eqb (start_refusal t st ps) 0)
    (λ e. rw e (start_with (record { profiles = ps; settings = st; now = t })))
    (λ e. rw e (start_with (record { profiles = no_profiles; settings = default_settings; now = 0 })))

-- A refused call has no report.
at_box : (s : State) (k : Tally) → Counted s.manager k → (c : Call) → (event_of s c).details.report.ran ≡ true
    → Figures (counted_by (read_off s) c k) (read_call (read_off s) c) (time_of c) (event_of s c).details.report
unfolding no_report
at_box s k g c h = cases _ (eqb (refusal_of s c) 0)
    (λ e. let z = eqb-true (refusal_of s c) 0 e in rw (step_done s c z, done_read s c z) (done_figures s k g c z (rw (step_done s c z) at h)))
    (λ e. false_true (rw (step_refused s c e) at h))

at_due : (s : State) (k : Tally) → Counted s.manager k → (u : ℕ) (c : ManagerCall) → accepted (event_of s (manager u c)) ≡ true
    → (event_of s (manager u c)).details.report.ran ≡ leb 2000 (u - k.since)
unfolding done_of handle_of due_of
at_due s k g u c a =
    let e = accepted_free s (manager u c) a in
    let m = noting s.manager (terms_of s k g u c) (manager_by s c).event in
    rw (step_done s (manager u c) e, finish_reports m _ (terms_of s k g u c), ← g.last, noting_last s.manager (terms_of s k g u c) (manager_by s c).event)

module _ (t : ℕ) (st : Settings) (ps : Profiles) (cs : List Call) where
  box_counted : Counted (box_after t st ps cs).manager (tally_after t st ps cs)
  box_counted = rw (start_read t st ps) (run_counted cs (start_of t st ps).state (start_tally t st ps) (start_counted t st ps))

  -- Only an accepted call of the manager has a report.
  figured : (c : Call) → (event_of (box_after t st ps cs) c).details.report.ran ≡ true
      → Figures (counted_by (read_after t st ps cs) c (tally_after t st ps cs)) (read_call (read_after t st ps cs) c) (time_of c) (event_of (box_after t st ps cs) c).details.report
  figured c h = rw (box_read t st ps cs) (at_box (box_after t st ps cs) (tally_after t st ps cs) box_counted c h)

  due_since : (u : ℕ) (c : ManagerCall) → accepted (event_of (box_after t st ps cs) (manager u c)) ≡ true
      → (event_of (box_after t st ps cs) (manager u c)).details.report.ran ≡ leb 2000 (u - (tally_after t st ps cs).since)
  due_since u c a = at_due (box_after t st ps cs) (tally_after t st ps cs) box_counted u c a

pub claim : Claim
claim = record { figures = figured; due = due_since }
