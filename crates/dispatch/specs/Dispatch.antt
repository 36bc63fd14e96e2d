-- A call as it is handed to the box, as a call of the histories that demand 3 speaks of.
use Rattle.std.specs.Prelude.{◌≡◌, ℕ, Bool, true, false, ◌&&◌, List, [], length, ◌==◌}
use Rattle.base.specs.Choice.{pick}
use Rattle.obd2.specs.Answers.{Tells}
use Rattle.clients.specs.Rules.{places}
use Rattle.obd2.specs.Call as history
use Rattle.obd2.specs.Core.{Lent}
use Rattle.obd2.specs.Done.{done_of}
use Rattle.obd2.specs.History.{lent_by, step}
use Rattle.obd2.specs.Refusals.{refusal_of}
use Rattle.obd2.specs.Answer.{Answered}
use Rattle.obd2.specs.declared.State.{State}
use Rattle.obd2.specs.declared.call.Call.{Call}
use Rattle.obd2.specs.declared.call.Call.TheVariants.{Register, Leave, Ask, Collect, GiveUp, Response, ProfilePidsChanged, Waiting, Consumed, Tick, SetSettings, TakeControl, Connect, ConnectFailed, ReconnectCheck, Begin, Next, Result}
use Rattle.obd2.specs.declared.call.Brought.{Brought}
use Rattle.obd2.specs.declared.rest.Told.{Told}
use Rattle.poller.specs.Core.{polled_rows, known_rows}

-- Lent arrays as long as their types say.
pub record Whole (x : Lent) : Type 0 where
  pub marks : length x.marks ≡ places
  pub table : length x.table ≡ 256
  pub polled : length x.polling.polled ≡ polled_rows
  pub known : length x.polling.known ≡ known_rows
  pub pids : length x.pids ≡ 256
  pub rates : length x.rates ≡ 256

-- A call without maintenance leaves the report's arrays, x before it and y after it, as they were.
abbrev pub Quiet : Lent → Lent → Told → Type 0
Quiet x y r = r.notes.summary.ran ≡ false → (y.pids ≡ x.pids) × (y.rates ≡ x.rates)

-- The time, the numbers, what is brought, a command's bytes and the lent area.
unfoldable pub call_of : ℕ → Call → Brought → List ℕ → List ℕ → history.Call
call_of t Register b cmd area = history.register t
call_of t (Leave c) b cmd area = history.leave t c
call_of t (Ask c) b cmd area = history.ask t c cmd area
call_of t (Collect c) b cmd area = history.collect t c area
call_of t (GiveUp c) b cmd area = history.give_up t c
call_of t Response b cmd area = history.response t b.response
call_of t ProfilePidsChanged b cmd area = history.profile_pids_changed t b.profiles
call_of t (Waiting p) b cmd area = history.waiting t p
call_of t (Consumed p w) b cmd area = history.consumed t p w
call_of t Tick b cmd area = history.tick t
call_of t (SetSettings st) b cmd area = history.settings t st
call_of t TakeControl b cmd area = history.take_control t
call_of t Connect b cmd area = history.connect t b.session
call_of t ConnectFailed b cmd area = history.connect_failed t
call_of t ReconnectCheck b cmd area = history.reconnect_check t
call_of t Begin b cmd area = history.begin t
call_of t Next b cmd area = history.next t
call_of t Result b cmd area = history.result t b.outcome

-- Whether a call fills a lent area.
unfoldable pub fills : history.Call → Bool
fills (history.manager t c) = false
fills (history.cache t (history.Ask c cmd area)) = true
fills (history.cache t (history.Collect c area)) = true
fills (history.cache t (history.GiveUp c)) = false
fills (history.settings t st) = false
fills (history.take_control t) = false
fills (history.link t c) = false
fills (history.round t c) = false

-- The lent area after a call with refusal n: what the histories say of an accepted one that fills it; any other leaves
-- it as it was.
unfoldable pub area_by : ℕ → State → history.Call → List ℕ → List ℕ
area_by n s c area = pick (fills c && n == 0) (lent_by n s c) area

abbrev pub area_of : State → ℕ → Call → Brought → List ℕ → List ℕ → List ℕ
area_of s t c b cmd area = let k = call_of t c b cmd area in area_by (refusal_of s k) s k area

-- What goes with every answer: the call is one that demand 3 speaks of, and the answer has document 01's number and values.
pub record Promised (s : State) (c : history.Call) (r : Answered) : Type 0 where
  pub fits : history.Fit c
  pub tells : Tells (refusal_of s c) (done_of s c).said (done_of s c).details r

-- All that `call` promises of a call k.
unfoldable pub All : State → ℕ → Brought → List ℕ → List ℕ → Answered → List ℕ → Call → Type 0
All s t b cmd area r after k = let c = call_of t k b cmd area in (r ≡ step s c) × ((after ≡ area_of s t k b cmd area) × Promised s c r)
