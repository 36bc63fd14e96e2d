-- Every call of the box, refused or accepted, and a box run over a list of calls.
use Rattle.std.specs.Prelude.{◌≡◌, ℕ, Bool, true, false, List, [], ◌∷◌, ◌++◌, ◌==◌}
use Rattle.std.specs.Prelude.{refl}
use Rattle.std.proofs.Common.{ap}
use Rattle.base.specs.Choice.{pick}
use Rattle.cache.specs.Rules.{handed_of, filled_by}
use Rattle.config.specs.Blank.{no_profiles}
use Rattle.config.specs.Defaults.{default_settings}
use Rattle.config.specs.declared.Profiles.{Profiles}
use Rattle.config.specs.declared.Settings.{Settings}
use Rattle.waits.specs.Rules.{awaited_reply}
use Rattle.obd2.specs.Call.{Call, manager, cache, settings, take_control, link, round, Ask, Collect, GiveUp, time_of}
use Rattle.obd2.specs.Done.{Done, ranges, ask_step, done_of}
use Rattle.obd2.specs.Refusals.{start_refusal, row_refusal, refusal_of}
use Rattle.obd2.specs.State.{at, no_details, answered, started}
use Rattle.obd2.specs.declared.State.{State}
use Rattle.obd2.specs.Answer.{Answer}
use Rattle.obd2.specs.Answer.{Refused, Accepted}
use Rattle.obd2.specs.declared.Said.TheVariants as said
use Rattle.obd2.specs.declared.Details.{Details}
use Rattle.obd2.specs.Answer.{Answered}

abbrev pub refused : State → ℕ → Answered
refused s n = answered s (Refused n) no_details

-- "an accepted call's time is kept"
abbrev pub accepting : ℕ → Done → Answered
accepting t d = answered (at d.state t) (Accepted d.said) d.details

-- A call with refusal n: what it does if that is 0, else its number, and the box as it was.
abbrev pub settled : ℕ → State → Answered → Answered
settled n s a = pick (n == 0) a (refused s n)

-- EVERY CALL.
unfoldable pub step : State → Call → Answered
step s c = settled (refusal_of s c) s (accepting (time_of c) (done_of s c))

-- The same without the time's row: what the functions of the single calls do, behind the one that tests the time. At a time
-- that the box does not take it is no step of the box.
unfoldable pub in_time : State → Call → Answered
in_time s c = settled (row_refusal s c) s (accepting (time_of c) (done_of s c))

-- "a refused start gives the box started at 0 with defaults and no profiles"
unfoldable pub start_of : ℕ → Settings → Profiles → Answered
start_of t st ps = settled (start_refusal t st ps) (started 0 default_settings no_profiles) (answered (started t st ps) (Accepted said.Started) no_details)

-- The lent area after a call with refusal n: its start has the lines joined, if the call hands out a reply. A call that
-- is lent none leaves none.
unfoldable pub lent_by : ℕ → State → Call → List ℕ
lent_by n s (cache t (Ask c cmd area)) = filled_by n (handed_of s.desk c (ranges s) (ask_step s cmd)) area
lent_by n s (cache t (Collect c area)) = filled_by n (awaited_reply s.desk c) area
lent_by n s (cache t (GiveUp c)) = []
lent_by n s (manager t c) = []
lent_by n s (settings t st) = []
lent_by n s (take_control t) = []
lent_by n s (link t c) = []
lent_by n s (round t c) = []

abbrev pub lent_after : State → Call → List ℕ
lent_after s c = lent_by (refusal_of s c) s c

-- The box after a list of calls: each call gets the box that the last one left.
unfoldable pub run : State → List Call → State
run s [] = s
run s (c ∷ cs) = run (step s c).state cs

-- A call and what came of it: its answer, what stands beside it, and the lent area after it. This is all that an
-- observer sees; the readings of a history are made of events alone.
pub record Event : Type 0 where
  pub call : Call
  pub answer : Answer
  pub details : Details
  pub lent : List ℕ

abbrev pub event_of : State → Call → Event
event_of s c = record { call = c; answer = (step s c).answer; details = (step s c).details; lent = lent_after s c }

unfoldable pub happened : State → List Call → List Event
happened s [] = []
happened s (c ∷ cs) = event_of s c ∷ happened (step s c).state cs

-- "the answers tell which were accepted"
abbrev pub accepted_by : Answer → Bool
accepted_by (Refused n) = false
accepted_by (Accepted a) = true

abbrev pub accepted : Event → Bool
accepted e = accepted_by e.answer

-- One list of calls after another.
pub run_append : (cs ds : List Call) (s : State) → run s (cs ++ ds) ≡ run (run s cs) ds
unfolding run
run_append [] ds s = refl
run_append (c ∷ cs) ds s = run_append cs ds (step s c).state

pub happened_append : (cs ds : List Call) (s : State) → happened s (cs ++ ds) ≡ happened s cs ++ happened (run s cs) ds
unfolding happened run
happened_append [] ds s = refl
happened_append (c ∷ cs) ds s = ap (λ (h : List Event). event_of s c ∷ h) (happened_append cs ds (step s c).state)
