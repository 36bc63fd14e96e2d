-- CLAIM 1, AGREEMENT, the first sentence of demand 3. This file holds definitions and the statement only.
--
-- For every start and every list of calls, refused ones included: after it, let a round then open end (any `next`
-- and `result` calls that end it), take the waiting control messages in order, and the poller's fast list is exactly
-- the manager's Fast PIDs, its slow list the Slow ones, no PID twice within or across them. What the manager tracks is
-- read from the start and the accepted calls' arguments alone.
use Rattle.std.specs.Prelude.{false, List, [], ◌∷◌, ◌≡◌, ℕ, zero, suc, ◌≤◌, length, replicate}
use Rattle.base.specs.Choice.{pick}
use Rattle.config.specs.Blank.{no_profiles}
use Rattle.config.specs.Defaults.{default_settings}
use Rattle.config.specs.declared.Profiles.{Profiles}
use Rattle.config.specs.declared.Settings.{Settings}
use Rattle.control.specs.Speed.{Speed, Agree}
use Rattle.control_line.specs.Ring.{waiting}
use Rattle.delivery.specs.Rules.{pid_at, value_at}
use Rattle.manager.specs.Calls.{start_of as startManager, handle_of}
use Rattle.manager.specs.declared.Answer.{Answer as Managed}
use Rattle.manager.specs.declared.Event.{Event as ManagerEvent}
use Rattle.manager.specs.declared.Event.TheVariants as event
use Rattle.manager.specs.declared.Manager.{Manager}
use Rattle.passes.specs.Sweep.{speed_at}
use Rattle.pid_list.specs.Rules.{entries}
use Rattle.rounds.specs.declared.Outcome.{Outcome}
use Rattle.reply.specs.declared.Response.{Response}
use Rattle.triggers.specs.Rules.{switch_of}
use Rattle.obd2.specs.Call.{Call, manager, cache, settings, take_control, link, round, ManagerCall, Register, Leave, Respond, Changed, Waiting, Consumed, Tick, next, result, Calls}
use Rattle.obd2.specs.History.{start_of, step, run, Event, happened, accepted_by, accepted}
use Rattle.obd2.specs.Refusals.{round_open, result_due}
use Rattle.obd2.specs.Answer.{Answer}
use Rattle.obd2.specs.declared.State.{State}

-- What the rules make of the accepted calls: the manager, with the profiles and the settings it goes by.
pub record Reading : Type 0 where
  pub manager : Manager
  pub profiles : Profiles
  pub settings : Settings

-- The profiles after the values of the k PIDs of a response from place i on.
unfoldable pub switched : ℕ → ℕ → Response → Profiles → Profiles
switched zero i r ps = ps
switched (suc k) i r ps = switched k (suc i) r (switch_of (pid_at r i) (value_at r i) ps)

-- A manager's call, by the rules under "PID table (manager)": the profiles after it, and its event.
unfoldable pub profiles_after : Profiles → ManagerCall → Profiles
profiles_after ps Register = ps
profiles_after ps (Leave c) = ps
profiles_after ps (Respond r) = switched r.count 0 r ps
profiles_after ps (Changed new) = new
profiles_after ps (Waiting p) = ps
profiles_after ps (Consumed p w) = ps
profiles_after ps Tick = ps

unfoldable pub event_by : ManagerCall → ManagerEvent
event_by Register = event.Nothing
event_by (Leave c) = event.Nothing
event_by (Respond r) = event.Nothing
event_by (Changed new) = event.ProfilePidsChanged
event_by (Waiting p) = event.Waiting p
event_by (Consumed p w) = event.Consumed p w
event_by Tick = event.Nothing

-- The manager told the event; then it does maintenance, if that is due. Both go by the profiles after the call.
abbrev pub managed_by : Reading → ℕ → ManagerCall → Managed
managed_by r t c = handle_of r.manager (record { profiles = profiles_after r.profiles c; settings = r.settings; now = t }) (event_by c)

-- An accepted call.
unfoldable pub read_call : Reading → Call → Reading
read_call r (manager t c) = record { manager = (managed_by r t c).manager; profiles = profiles_after r.profiles c; settings = r.settings }
read_call r (cache t c) = r
read_call r (settings t st) = record { manager = r.manager; profiles = r.profiles; settings = st }
read_call r (take_control t) = r
read_call r (link t c) = r
read_call r (round t c) = r

unfoldable pub read : Reading → List Event → Reading
read r [] = r
read r (e ∷ es) = read (pick (accepted e) (read_call r e.call) r) es

abbrev pub reading_at : ℕ → Settings → Profiles → Reading
reading_at t st ps = record { manager = (startManager (record { profiles = ps; settings = st; now = t })).manager; profiles = ps; settings = st }

-- A refused start gives the box started at 0 with defaults and no profiles.
abbrev pub read_start : ℕ → Settings → Profiles → Answer → Reading
read_start t st ps a = pick (accepted_by a) (reading_at t st ps) (reading_at 0 default_settings no_profiles)

-- THE MANAGER'S FAST AND SLOW PIDS: the speed of q.
abbrev pub tracked : Reading → ℕ → Speed
tracked r q = speed_at r.manager.table q

-- Calls that a round goes on by.
pub data OfRound : List Call → Type 0 where
  none : OfRound []
  asks : {t : ℕ} {cs : List Call} → OfRound cs → OfRound (next t ∷ cs)
  tells : {t : ℕ} {o : Outcome} {cs : List Call} → OfRound cs → OfRound (result t o ∷ cs)

-- The waiting control messages taken, one call each, at the box's own time.
abbrev pub taking : State → List Call
taking s = replicate (length (waiting s.line)) (take_control s.time)

abbrev pub taken_all : State → State
taken_all s = run s (taking s)

-- A start's arguments and a list of calls, as a caller can make them.
module _ (t : ℕ) (st : Settings) (ps : Profiles) (cs : List Call) where
  abbrev pub box_after : State
  box_after = run (start_of t st ps).state cs

  abbrev pub read_after : Reading
  read_after = read (read_start t st ps (start_of t st ps).answer) (happened (start_of t st ps).state cs)

-- The lists agree with the table: after the calls that end the round, the messages that wait are taken.
abbrev pub AgreementAfter : ℕ → Settings → Profiles → List Call → List Call → Type 0
AgreementAfter t st ps cs ds =
    let s = taken_all (run (box_after t st ps cs) ds) in
    (waiting s.line ≡ []) × Agree (entries s.poller.fast) (entries s.poller.slow) (tracked (read_after t st ps cs))

-- The call that is due in an open round, at the box's own time: the result of its query, or `next`.
abbrev pub due : Outcome → State → Call
due o s = pick (result_due s) (result s.time o) (next s.time)

-- Those calls till the round is over, with these results.
unfoldable pub ending : List Outcome → State → List Call
ending [] s = []
ending (o ∷ os) s = pick (round_open s) (due o s ∷ ending os (step s (due o s)).state) []

-- Whatever the results, as many calls end an open round: a `next` and a result for each of 256 PIDs, and the `next` that ends it.
abbrev pub most_calls : ℕ
most_calls = 513

pub record RoundEnds (s : State) (os : List Outcome) : Type 0 where
  pub of_round : OfRound (ending os s)
  pub few : length (ending os s) ≤ most_calls
  pub closed : round_open (run s (ending os s)) ≡ false

pub record Claim : Type 0 where
  pub agreement : (t : ℕ) (st : Settings) (ps : Profiles) (cs ds : List Call) → Calls cs → OfRound ds
      → round_open (run (box_after t st ps cs) ds) ≡ false → AgreementAfter t st ps cs ds
  pub rounds_end : (t : ℕ) (st : Settings) (ps : Profiles) (cs : List Call) → Calls cs → (os : List Outcome) → length os ≡ most_calls
      → RoundEnds (box_after t st ps cs) os
