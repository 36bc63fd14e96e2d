-- Demand 3, "Readings": what is due to each client and what it is handed, over every list of calls. All of it is read
-- from the events alone: the calls with their arguments, their answers, and the lent areas. Statements only.
use Rattle.std.specs.Prelude.{is_some}
use Rattle.clients.specs.Rules.{pid_in, since_in}
use Rattle.std.specs.Prelude.{Option, Bool, true, false, ◌&&◌, ◌||◌, not, List, [], ◌∷◌, ◌++◌, ◌≡◌, ℕ, suc, ◌+◌, ◌-◌, ◌<◌, ◌≤◌, eqb, get_or, drop}
use Rattle.base.specs.Choice.{pick}
use Rattle.cache.specs.Rules.{hands_out, wait_after}
use Rattle.cache.specs.declared.Answer.{Answer as Asking}
use Rattle.cache.specs.declared.Answer.TheVariants as asking
use Rattle.clients.specs.Rules.{idle}
use Rattle.clients.specs.declared.Wait.{Wait}
use Rattle.command.specs.Classify.{command_of}
use Rattle.command.specs.declared.Command.TheVariants as command
use Rattle.config.specs.declared.Profiles.{Profiles}
use Rattle.config.specs.declared.Settings.{Settings}
use Rattle.delivery.specs.Rules.{arrives, newest_of}
use Rattle.rounds.specs.Result.{is_lost}
use Rattle.reply.specs.Rules.{no_reply, size_of, joined_of}
use Rattle.reply.specs.declared.Reply.{Reply}
use Rattle.reply.specs.declared.Response.{Response}
use Rattle.obd2.specs.Answers.{said_values}
use Rattle.obd2.specs.Call.{Call, manager, cache, settings, take_control, link, round, Register, Leave, Respond, Changed, Waiting, Consumed, Tick, Ask, Collect, GiveUp, Connect, Fail, Check, Begin, Next, Result, register, ask, collect, Calls}
use Rattle.obd2.specs.History.{Event, start_of, happened, accepted}
use Rattle.obd2.specs.State.{no_details}
use Rattle.obd2.specs.Answer.{Answer}
use Rattle.obd2.specs.Answer.{Refused, Accepted}
use Rattle.obd2.specs.declared.Said.{Said}
use Rattle.obd2.specs.declared.Said.TheVariants.{Started, Client, Done, Asked, Collected, GivenUp, Taken, Connecting, Check as Checked, Step}

-- What a call does, as far as readings go by it; c is a client's number, p a PID.
pub record Deed : Type 0 where
  -- c registers, it leaves, and how many numbers are given after that
  pub enters : ℕ → Bool
  pub leaves : ℕ → Bool
  pub gives : ℕ → ℕ
  -- c's wait after it
  pub waits : ℕ → Option Wait → Option Wait
  -- "A reading is handed out by an ask naming Consumed or an accepted collect": c is handed one of p
  pub hands : ℕ → ℕ → Bool
  -- a reply for p comes, and which
  pub brings : ℕ → Bool
  pub reply : ℕ → Reply
  -- the connection after it
  pub links : Bool → Bool

abbrev pub none : ℕ → Bool
none c = false

abbrev pub same : {A : Type 0} → A → A
same x = x

-- Nothing is done but to the connection.
abbrev pub linking : (Bool → Bool) → Deed
linking f = record { enters = none; leaves = none; gives = same; waits = λ c. same; hands = λ c. none; brings = none; reply = λ p. no_reply; links = f }

abbrev pub quiet : Deed
quiet = linking same

-- Client c registers, or leaves: it waits for nothing.
abbrev pub entering : ℕ → Deed
entering c = record { enters = eqb c; leaves = none; gives = suc; waits = λ e w. pick (eqb c e) idle w; hands = λ e. none; brings = none; reply = λ p. no_reply; links = same }

abbrev pub leaving : ℕ → Deed
leaving c = record { enters = none; leaves = eqb c; gives = same; waits = λ e w. pick (eqb c e) idle w; hands = λ e. none; brings = none; reply = λ p. no_reply; links = same }

-- Client c is served: f is what becomes of its wait, and it is handed a reading of the PIDs of g.
abbrev pub serving : ℕ → (Option Wait → Option Wait) → (ℕ → Bool) → Deed
serving c f g = record { enters = none; leaves = none; gives = same; waits = λ e w. pick (eqb e c) (f w) w; hands = λ e p. eqb e c && g p; brings = none; reply = λ p. no_reply; links = same }

abbrev pub bringing : Response → Deed
bringing r = record { enters = none; leaves = none; gives = same; waits = λ c. same; hands = λ c. none; brings = arrives r; reply = λ p. newest_of r p no_reply; links = same }

-- What an answer says: an ask's answer, and the first of the values, a register's client number and a collect's PID, whatever stands
-- beside the answer. These calls answer nothing else where they are accepted: `numbered`, `asked` and `collected` below.
abbrev pub asked_in : Said → Asking
asked_in (Asked a) = a
asked_in Started = asking.Unable
asked_in (Client n) = asking.Unable
asked_in Done = asking.Unable
asked_in (Collected p w) = asking.Unable
asked_in GivenUp = asking.Unable
asked_in (Taken x) = asking.Unable
asked_in (Connecting x) = asking.Unable
asked_in (Checked b) = asking.Unable
asked_in (Step x) = asking.Unable

abbrev pub first_in : Said → ℕ
first_in a = get_or (said_values a no_details) 0 0

-- An accepted call, with what it says. The connection is what the accepted calls make of it, whatever they answer:
-- connect makes it or finds it standing, and a connect that failed leaves it as it was.
abbrev pub deed_of : Call → Said → Deed
deed_of (manager t Register) a = entering (first_in a)
deed_of (manager t (Leave c)) a = leaving c
deed_of (manager t (Respond r)) a = bringing r
deed_of (manager t (Changed ps)) a = quiet
deed_of (manager t (Waiting p)) a = quiet
deed_of (manager t (Consumed p w)) a = quiet
deed_of (manager t Tick) a = quiet
deed_of (cache t (Ask c cmd area)) a = serving c (wait_after t (asked_in a)) (hands_out (asked_in a))
deed_of (cache t (Collect c area)) a = serving c (λ w. idle) (eqb (first_in a))
deed_of (cache t (GiveUp c)) a = serving c (λ w. idle) none
deed_of (settings t st) a = quiet
deed_of (take_control t) a = quiet
deed_of (link t (Connect session)) a = linking (λ b. true)
deed_of (link t Fail) a = quiet
deed_of (link t Check) a = quiet
deed_of (round t Begin) a = quiet
deed_of (round t Next) a = quiet
deed_of (round t (Result o)) a = linking (λ b. pick (is_lost o.kind) false b)

-- "the answers tell which were accepted"
abbrev pub deed_by : Call → Answer → Deed
deed_by c (Refused n) = quiet
deed_by c (Accepted a) = deed_of c a

abbrev pub deed : Event → Deed
deed e = deed_by e.call e.answer

-- A delivery of a reply: named by the place of the response that brought it, so that two with equal bytes differ.
pub data Due : Type 0 where
  nothing : Due
  delivery : (place : ℕ) (reply : Reply) → Due

-- What is read off a history.
pub record Figures : Type 0 where
  -- how many events there were, and so the place of the next
  pub place : ℕ
  -- the connection stands
  pub connected : Bool
  -- client c is registered
  pub here : ℕ → Bool
  -- how many client numbers were given: "Numbers rise from 1 and are never given again"
  pub given : ℕ
  -- what c waits for, and since when: by its last ask that named Waiting, with no collect, give up or leave since
  pub wait : ℕ → Option Wait
  -- what is due to c of PID p: the newest delivery since c registered or, if later, was last handed one for it
  pub pending : ℕ → ℕ → Due
  -- the newest delivery of p, whoever was handed it
  pub newest : ℕ → Due

abbrev pub start : Figures
start = record { place = 0; connected = false; here = none; given = 0; wait = λ c. idle; pending = λ c p. nothing; newest = λ p. nothing }

-- The delivery of p after an event at place i, where it was x.
abbrev pub brought : ℕ → Deed → ℕ → Due → Due
brought i d p x = pick (d.brings p) (delivery i (d.reply p)) x

abbrev pub after : Deed → Figures → Figures
after d v = record {
  place = suc v.place;
  connected = d.links v.connected;
  here = λ c. pick (d.enters c) true (not (d.leaves c) && v.here c);
  given = d.gives v.given;
  wait = λ c. d.waits c (v.wait c);
  pending = λ c p. pick (d.enters c || d.hands c p) nothing (brought v.place d p (v.pending c p));
  newest = λ p. brought v.place d p (v.newest p);
}

unfoldable pub read_from : Figures → List Event → Figures
read_from v [] = v
read_from v (e ∷ h) = read_from (after (deed e) v) h

abbrev pub read : List Event → Figures
read h = read_from start h

-- "the reply's lines joined, and their lengths", the rest of the lent area as it was
pub record Handed (r : Reply) (area : List ℕ) (e : Event) : Type 0 where
  pub joined : e.lent ≡ joined_of r ++ drop (size_of r) area
  pub lines : e.details.lines ≡ r.lines
  pub lengths : e.details.lengths ≡ r.lengths

-- An ask for p is answered a reading of what is due, or Waiting where nothing is.
abbrev pub AnsweredBy : Due → ℕ → List ℕ → Event → Type 0
AnsweredBy nothing p area e = e.answer ≡ Accepted (Asked (asking.Waiting p))
AnsweredBy (delivery i r) p area e = (e.answer ≡ Accepted (Asked (asking.Reading p))) × Handed r area e

-- A cache ask for p, with the connection as it is: "else the PID goes to the cache".
pub record CacheAsk (v : Figures) (cmd : List ℕ) (p : ℕ) : Type 0 where
  pub stands : v.connected ≡ true
  pub command : command_of cmd ≡ command.Pid p

-- A delivery of p that is due to client c: it is the newest of p.
pub record Delivered (c p : ℕ) (v : Figures) : Type 0 where
  pub place : ℕ
  pub reply : Reply
  pub due : v.pending c p ≡ delivery place reply
  pub latest : v.newest p ≡ delivery place reply

-- A collect hands out what is due of the PID that the client waits for, and names the wait since the ask.
pub record Collects (v : Figures) (t c : ℕ) (area : List ℕ) (e : Event) : Type 0 where
  pub waited : is_some (v.wait c) ≡ true
  pub since_then : since_in (v.wait c) ≤ t
  pub due : Delivered c (pid_in (v.wait c)) v
  pub named : e.answer ≡ Accepted (Collected (pid_in (v.wait c)) (t - since_in (v.wait c)))
  pub hands : Handed due.reply area e

-- An event, and what is read off the history before it.
pub record Right (v : Figures) (e : Event) : Type 0 where
  -- a client registers once: its number was never given before
  pub numbered : (t : ℕ) → e.call ≡ register t → accepted e ≡ true → e.answer ≡ Accepted (Client (v.given + 1))
  -- "An accepted cache ask hands out a reading exactly when a reply for its PID came since that client registered or,
  -- if later, was last handed one for it", and else the client waits
  pub asked : (t c p : ℕ) (cmd area : List ℕ) → e.call ≡ ask t c cmd area → accepted e ≡ true → CacheAsk v cmd p
      → (v.here c ≡ true) × AnsweredBy (v.pending c p) p area e
  -- no other ask hands out a reading, or begins a wait
  pub only_reading : (t c p : ℕ) (cmd area : List ℕ) → e.call ≡ ask t c cmd area → e.answer ≡ Accepted (Asked (asking.Reading p)) → CacheAsk v cmd p
  pub only_waiting : (t c p : ℕ) (cmd area : List ℕ) → e.call ≡ ask t c cmd area → e.answer ≡ Accepted (Asked (asking.Waiting p)) → CacheAsk v cmd p
  pub collected : (t c : ℕ) (area : List ℕ) → e.call ≡ collect t c area → accepted e ≡ true
      → (v.here c ≡ true) × Collects v t c area e
  -- "every reading handed out is the newest such reply", by ask or collect
  pub handed_newest : (c p : ℕ) → (deed e).hands c p ≡ true → Delivered c p v

-- "no client is handed one delivery twice", equal bytes or not: the later one came by a later response
pub record Once (c p : ℕ) (v w : Figures) : Type 0 where
  pub first : Delivered c p v
  pub second : Delivered c p w
  pub later : first.place < second.place

pub record Readings (h : List Event) : Type 0 where
  pub each : (h₁ h₂ : List Event) (e : Event) → h ≡ h₁ ++ (e ∷ h₂) → Right (read h₁) e
  pub once : (h₁ h₂ h₃ : List Event) (e f : Event) (c p : ℕ) → h ≡ h₁ ++ (e ∷ (h₂ ++ (f ∷ h₃)))
      → (deed e).hands c p ≡ true → (deed f).hands c p ≡ true → Once c p (read h₁) (read (h₁ ++ (e ∷ h₂)))

-- For every start, refused or not, and every list of calls, refused ones included.
abbrev pub Claim : Type 0
Claim = (t : ℕ) (st : Settings) (ps : Profiles) (cs : List Call) → Calls cs → Readings (happened (start_of t st ps).state cs)
