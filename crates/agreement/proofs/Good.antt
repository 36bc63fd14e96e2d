-- What holds of the box from its start on, refused or not, and every call keeps: lists and table agreed, few queries left
-- to a round, and a time that the box takes.
use Rattle.std.specs.Prelude.{false, List, [], ◌∷◌, ◌≡◌, ℕ, ◌+◌, ◌≤◌, eqb}
use Rattle.std.proofs.Math.Path.{refl}
use Rattle.std.proofs.Common.{sym, arith, le-ltb, ltb-false, eqb-true}
use Rattle.base.specs.Choice.{one, cases}
use Rattle.config.specs.Blank.{no_profiles}
use Rattle.config.specs.Defaults.{default_settings}
use Rattle.config.specs.declared.Profiles.{Profiles}
use Rattle.config.specs.declared.Settings.{Settings}
use Rattle.control.specs.Names.{named_none}
use Rattle.control.specs.Speed.{untracked, after_all}
use Rattle.control.specs.declared.DongleMessage.{DongleMessage}
use Rattle.control_line.specs.Laws.{empty_sound, empty_waiting, take_first, take_none}
use Rattle.control_line.specs.Ring.{empty_line, free_of, waiting}
use Rattle.link.specs.Rules.{is_no}
use Rattle.manager.specs.Calls.{no_table, start_of as startManager}
use Rattle.manager.specs.Laws.{handle_tells, start_tells, none_speed, no_whole}
use Rattle.manager.specs.Tells.{Names}
use Rattle.passes.specs.declared.Terms.{Terms}
use Rattle.pid_list.specs.Rules.{empty_list}
use Rattle.poll_laws.specs.Keeps.{next_kept}
use Rattle.poll_laws.specs.Lists.{start_both, start_agree}
use Rattle.poll_laws.specs.Rounds.{queries_left, Stride, ended, issued}
use Rattle.poll_laws.proofs.Rounds.{next_stride, result_settled, begin_left}
use Rattle.poller.specs.Calls.{multi_allowed, connect_of, fail_of, reconnect_of, begin_of}
use Rattle.poller.specs.State.{due_of, start_of as startPoller}
use Rattle.poller.specs.declared.Poller.{Poller}
use Rattle.rounds.specs.Next.{next_of}
use Rattle.rounds.specs.Result.{result_of}
use Rattle.rounds.specs.declared.Stepped.{Stepped}
use Rattle.obd2.specs.Accepted.{top, accepted_time, manager_room}
use Rattle.obd2.specs.Call.{Call, manager, cache, settings, take_control, link, round, ManagerCall, Register, Leave, Respond, Changed, Waiting, Consumed, Tick, Connect, Fail, Check, Begin, Next, Result, FitManager, Fit, Calls}
use Rattle.obd2.specs.Done.{manager_by, managing, takes, link_by, round_by, done_of}
use Rattle.obd2.specs.History.{start_of, run}
use Rattle.obd2.specs.Keeps.{after, run_keeps}
use Rattle.obd2.specs.Refusals.{latest, bad_time, start_refusal, crowded, refusal_of}
use Rattle.obd2.specs.State.{managed, started}
use Rattle.obd2.specs.declared.State.{State}
use Rattle.agreement.specs.Agreed.{Agreed, managed_agreed, taken_agreed, kept_agreed, listed_few}

-- The queries of a round that have not come back, at most: those left to it and the one whose result is due.
abbrev outstanding : Poller → ℕ
outstanding p = queries_left p + one (due_of p.round.phase)

abbrev Kept : State → Type 0
Kept s = Agreed s.line s.manager.table s.poller.fast s.poller.slow × (outstanding s.poller ≤ 256)

pub record Good (s : State) : Type 0 where
  pub kept : Kept s
  pub timely : s.time ≤ latest

-- The box's own time is never refused.
pub own_time : (t : ℕ) → t ≤ latest → bad_time t t ≡ false
own_time t h = rw (le-ltb t t (omega arith), le-ltb latest t h)

-- A round's begin leaves the lists.
begin_lists : (p : Poller) (st : Settings) → ((begin_of p st).fast ≡ p.fast) × ((begin_of p st).slow ≡ p.slow)
unfolding begin_of
begin_lists p st = cases _ p.link.connected
    (λ e. rw e (cases _ (multi_allowed st.multi (is_no p.link.features.multi)) (λ f. rw f (refl, refl)) (λ f. rw f (refl, refl))))
    (λ e. rw e (refl, refl))

stride_few : (p : Poller) (n : ℕ) (r : Stepped) → Stride p n r → n ≤ 256 → outstanding r.poller ≤ 256
stride_few p n r (ended e f) h = rw f (omega arith)
stride_few p n r (issued e f i g) h = rw f (omega arith)

module _ (s : State) where
  -- A PID that a caller hands in has a place in the table.
  fit_names : (c : ManagerCall) → FitManager c → Names (manager_by s c).event
  unfolding manager_by
  fit_names Register f = tt
  fit_names (Leave c) f = tt
  fit_names (Respond r) f = tt
  fit_names (Changed ps) f = tt
  fit_names (Waiting p) f = f
  fit_names (Consumed p d) f = f
  fit_names Tick f = tt

  taken_kept : Kept s → (ms : List DongleMessage) → waiting s.line ≡ ms → Kept (takes s).state
  taken_kept k [] e = rw (take_none s.line e) k
  taken_kept k (m ∷ ms) e = rw (take_first s.line m ms e).0 (taken_agreed _ _ _ _ k.0 m ms e, k.1)

  done_kept : (c : Call) → Fit c → Kept s → refusal_of s c ≡ 0 → Kept (after s c)
  unfolding done_of link_by round_by managed crowded connect_of fail_of reconnect_of result_of
  done_kept (manager t c) f k e =
      let r = manager_by s c in
      let terms : Terms = record { profiles = r.profiles; settings = s.settings; now = t } in
      let w = k.0.table_whole in
      (managed_agreed _ _ _ _ k.0 _ (managing s t r) (handle_tells s.manager terms w r.event (fit_names c f)) (manager_room s t c e), k.1)
  done_kept (cache t c) f k e = k
  done_kept (settings t st) f k e = k
  done_kept (take_control t) f k e = taken_kept k (waiting s.line) refl
  done_kept (link t (Connect x)) f k e = k
  done_kept (link t Fail) f k e = k
  done_kept (link t Check) f k e = k
  done_kept (round t Begin) f k e =
      let b = begin_lists s.poller s.settings in
      let l = k.0.lists_sound in
      let q = begin_left s.poller s.settings 256 l.fast_sound.whole l.slow_sound.whole (listed_few k.0) (omega arith) in
      let n = q.2 in
      (rw (b.0, b.1) k.0, rw q.1 (omega arith))
  done_kept (round t Next) f k e =
      let n = k.1 in
      (kept_agreed (next_kept s.poller t) k.0, stride_few s.poller _ (next_of s.poller t) (next_stride s.poller t) (omega arith))
  done_kept (round t (Result o)) f k e = (k.0, (let r = result_settled s.poller t o in let m = r.fewer in let n = k.1 in rw r.taken (omega arith)))

-- Every list of calls.
pub run_good : (cs : List Call) (s : State) → Calls cs → Good s → Good (run s cs)
run_good = run_keeps Good (λ s c f g e. record { kept = done_kept s c f g.kept e; timely = (accepted_time s c e).1 })

-- Before the start: nothing listed, nothing tracked, nothing sent.
nothing_agreed : Agreed empty_line no_table empty_list empty_list
unfolding after_all
nothing_agreed = record {
  line_sound = empty_sound;
  table_whole = no_whole;
  lists_sound = start_both;
  speeds = λ q. untracked;
  listed = start_agree;
  coming = λ q. rw empty_waiting (sym (none_speed q));
  small = rw empty_waiting (named_none 256);
}

started_good : (t : ℕ) (st : Settings) (ps : Profiles) → t ≤ latest → Good (started t st ps)
unfolding started startPoller empty_line free_of
started_good t st ps h =
    let terms : Terms = record { profiles = ps; settings = st; now = t } in
    let tells = start_tells terms in
    let n = tells.few in
    record {
      kept = (managed_agreed _ _ _ _ nothing_agreed _ (startManager terms) tells (le-ltb 1024 (startManager terms).outbox.count (omega arith)), omega arith);
      timely = h;
    }

pub start_good : (t : ℕ) (st : Settings) (ps : Profiles) → Good (start_of t st ps).state
unfolding start_of start_refusal
start_good t st ps = cases _ (eqb (start_refusal t st ps) 0)
    (λ e. rw e (started_good t st ps (ltb-false latest t (top 1 _ _ (eqb-true (start_refusal t st ps) 0 e) (omega arith)))))
    (λ e. rw e (started_good 0 default_settings no_profiles (omega arith)))
