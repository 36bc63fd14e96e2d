-- Demand 3, the rounds: what is read off a history, and the claim. The proof is in proofs/Theorem.
use Rattle.std.specs.Prelude.{Some, Bool, true, false, ◌&&◌, List, [], ◌∷◌, map, ◌≡◌, ℕ, ◌+◌, ◌*◌, ◌<◌, ◌≤◌, max, length, take, drop}
use Rattle.agreement.specs.Claim.{reading_at}
use Rattle.base.specs.Choice.{pick}
use Rattle.base.specs.Times.{times}
use Rattle.config.specs.Blank.{no_profiles}
use Rattle.config.specs.Defaults.{default_settings}
use Rattle.config.specs.declared.Profiles.{Profiles}
use Rattle.config.specs.declared.Settings.{Settings}
use Rattle.control.specs.Outbox.{messages}
use Rattle.control.specs.declared.DongleMessage.{DongleMessage}
use Rattle.control_line.specs.Ring.{empty_line, push_all_of}
use Rattle.link.specs.Rules.{is_no}
use Rattle.link.specs.declared.FeatureSupport.{FeatureSupport}
use Rattle.link.specs.declared.FeatureSupport.TheVariants.{Unknown}
use Rattle.manager.specs.Calls.{start_of as startManager}
use Rattle.pid_list.specs.Rules.{entries}
use Rattle.poll_laws.specs.Lists.{Both}
use Rattle.poller.specs.Calls.{multi_allowed}
use Rattle.rounds.specs.Result.{is_lost}
use Rattle.poller.specs.State.{start_of as startPoller}
use Rattle.obd2.specs.Call.{Call, manager, cache, settings, take_control, link, round, Connect, Fail, Check, Begin, Next, Result, FitSettings}
use Rattle.obd2.specs.History.{start_of, Event, accepted_by, accepted, run, happened}
use Rattle.obd2.specs.Refusals.{round_open}
use Rattle.obd2.specs.declared.State.{State}
use Rattle.obd2.specs.Answer.{Accepted}
use Rattle.obd2.specs.declared.Said.TheVariants as said
use Rattle.round_robin.specs.Marks.{Mark, Running, running, marks, mark, open_over, rounds, joined}

-- ---- the connection and the settings, read from the accepted calls' arguments

-- Whether the connection is up, the multi-PID state, and the settings.
pub record Seen : Type 0 where
  pub up : Bool
  pub multi : FeatureSupport
  pub settings : Settings

-- What an accepted call makes of them. Connecting while connected changes nothing; an attempt that failed leaves
-- the connection up or down, as it was; a result tells the multi-PID state, and a loss.
abbrev pub read_by : Seen → Call → Seen
read_by k (manager t c) = k
read_by k (cache t c) = k
read_by k (settings t st) = record { up = k.up; multi = k.multi; settings = st }
read_by k (take_control t) = k
read_by k (link t (Connect session)) = pick k.up k (record { up = true; multi = session.features.multi; settings = k.settings })
read_by k (link t Fail) = k
read_by k (link t Check) = k
read_by k (round t Begin) = k
read_by k (round t Next) = k
read_by k (round t (Result o)) = record { up = pick (is_lost o.kind) false k.up; multi = o.features.multi; settings = k.settings }

abbrev pub seen : Seen → Event → Seen
seen k e = pick (accepted e) (read_by k e.call) k

-- Over a history.
unfoldable pub seen_over : Seen → List Event → Seen
seen_over k [] = k
seen_over k (e ∷ h) = seen_over (seen k e) h

-- What is so of a box. `seen_run` in proofs/Reading: what is read over any history from a start is so of the box after it.
abbrev pub seen_at : State → Seen
seen_at s = record { up = s.poller.link.connected; multi = s.poller.link.features.multi; settings = s.settings }

-- ---- "while"

abbrev pub is_begin : Call → Bool
is_begin (manager t c) = false
is_begin (cache t c) = false
is_begin (settings t st) = false
is_begin (take_control t) = false
is_begin (link t c) = false
is_begin (round t Begin) = true
is_begin (round t Next) = false
is_begin (round t (Result o)) = false

abbrev pub begins : Event → Bool
begins e = accepted e && is_begin e.call

-- What it asks of one event. "run to its end" is in `rounds`, which has only the rounds that ended.
pub record Quiet (k : Seen) (e : Event) : Type 0 where
  pub stays_up : (seen k e).up ≡ true
  pub single : begins e ≡ true → multi_allowed k.settings.multi (is_no k.multi) ≡ false
  pub none_taken : (m : DongleMessage) → e.answer ≡ Accepted (said.Taken (Some m)) → ⊥
  pub unchanged : (seen k e).settings ≡ k.settings

pub data Steady : Seen → List Event → Type 0 where
  none : {k : Seen} → Steady k []
  more : {k : Seen} {e : Event} {h : List Event} → Quiet k e → Steady (seen k e) h → Steady k (e ∷ h)

-- ---- the claim

-- "From there, whatever other calls come, while the connection stays up, every round is a single one run to its end and no further
-- control message is taken nor setting changed, any stretch of as many rounds as the poller's fast list has entries asks each of
-- them; in Ratio mode with that list not empty, any stretch of slow length × ratio (at least 1) rounds asks each PID of the poller's
-- slow list." `Lasting` says the "while", `Asked` what the rounds then ask.

-- Of the fast and slow PIDs, the settings and the rounds. By document 02, A2, with the fast list empty: "each slow PID being asked
-- within as many rounds as the slow list has entries".
pub record Asked (fast slow : List ℕ) (st : Settings) (rs : List (List ℕ)) : Type 0 where
  pub fast_asked : (k q : ℕ) → k + length fast ≤ length rs → 0 < times q fast → 0 < times q (joined (take (length fast) (drop k rs)))
  pub slow_asked : (st.mode ≡ 0 → ⊥) → 0 < length fast
      → (k q : ℕ) → k + length slow * max 1 st.ratio ≤ length rs → 0 < times q slow → 0 < times q (joined (take (length slow * max 1 st.ratio) (drop k rs)))
  pub only_slow_asked : (st.mode ≡ 0 → ⊥) → length fast ≡ 0
      → (k q : ℕ) → k + length slow ≤ length rs → 0 < times q slow → 0 < times q (joined (take (length slow) (drop k rs)))

-- What is so before it, and the history.
pub record Lasting (k : Seen) (h : List Event) : Type 0 where
  pub up : k.up ≡ true
  pub steady : Steady k h

-- Of a box with sound lists and settings that a caller can hand in, and what is so of its round, its connection and its settings.
abbrev pub ClaimOf : State → Bool → Seen → Type 0
ClaimOf s opened k = Both s.poller.fast s.poller.slow → FitSettings k.settings → opened ≡ false
    → (cs : List Call) → Lasting k (happened s cs)
    → Asked (entries s.poller.fast) (entries s.poller.slow) k.settings (rounds (map mark (happened s cs)))

abbrev pub Claim : Type 0
Claim = (s : State) → ClaimOf s (round_open s) (seen_at s)

-- The same in a history from a start, refused or not: `before` leads to the box, and all but its two lists is read
-- from the calls and answers since the start, at which nothing is connected, the multi-PID state is unknown, and the
-- settings are those handed in, or the defaults where it was refused.
module _ (t : ℕ) (st : Settings) (ps : Profiles) (before : List Call) where
  abbrev pub sofar : List Event
  sofar = happened (start_of t st ps).state before

  abbrev pub there : State
  there = run (start_of t st ps).state before

  abbrev pub read : Seen
  read = seen_over (record { up = false; multi = Unknown; settings = pick (accepted_by (start_of t st ps).answer) st default_settings }) sofar

  abbrev pub ClaimSince : Type 0
  ClaimSince = ClaimOf there (open_over false (map mark sofar)) read

-- The rules' reading since a start, refused or not.
abbrev pub running_at : ℕ → Settings → Profiles → Running
running_at t st ps = record {
  reading = reading_at t st ps;
  line = push_all_of empty_line (messages (startManager (record { profiles = ps; settings = st; now = t })).outbox);
  poller = startPoller t;
}

module _ (t : ℕ) (st : Settings) (ps : Profiles) where
  abbrev pub run_start : Running
  run_start = pick (accepted_by (start_of t st ps).answer) (running_at t st ps) (running_at 0 default_settings no_profiles)

  abbrev pub run_after : List Call → Running
  run_after before = running run_start (sofar t st ps before)

  abbrev pub marks_after : List Call → List Mark
  marks_after before = marks run_start (sofar t st ps before)

  -- The rounds of the calls that come behind the list `before`.
  abbrev pub rounds_after : List Call → List Call → List (List ℕ)
  rounds_after before later = rounds (marks (run_after before) (happened (there t st ps before) later))
