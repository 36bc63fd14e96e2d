-- WHAT THE VALUE OF A REPLY GOES INTO, over every list of calls (document 02, A1: "The thresholds and the revs follow the
-- new value"). This file holds definitions and the statement only.
--
-- The value is `value_of` of crates/value: by J1979's length of the PID and the reply's first line. What a response
-- answers, the revs that are kept, the profiles that are switched off and the manager are read from the start and the
-- accepted calls alone (the last two as agreement's claim reads them).
-- What a session says is known of lengths comes in nowhere.
use Rattle.std.specs.Prelude.{Option, true, false, List, [], ◌∷◌, ◌≡◌, ℕ, zero, suc, ◌<◌, ◌≤◌, get_or}
use Rattle.agreement.specs.Claim.{switched, box_after, read_after}
use Rattle.base.specs.Choice.{pick}
use Rattle.config.specs.declared.Profiles.{Profiles}
use Rattle.config.specs.declared.Settings.{Settings}
use Rattle.delivery.specs.Rules.{revs_after, pid_at, value_at}
use Rattle.desk.specs.Rules.{revs_number, no_revs}
use Rattle.reply.specs.declared.Response.{Response}
use Rattle.triggers.specs.Rules.{notice_of}
use Rattle.obd2.specs.Call.{Call, manager, cache, settings, take_control, link, round, Register, Leave, Respond, Changed, Waiting, Consumed, Tick, response, Calls}
use Rattle.obd2.specs.History.{start_of, step, Event, happened, accepted_by, accepted}
use Rattle.obd2.specs.declared.State.{State}

-- The revs after the k PIDs of a response from place i on.
unfoldable pub revs_in : ℕ → ℕ → Response → Option ℕ → Option ℕ
revs_in zero i r old = old
revs_in (suc k) i r old = revs_in k (suc i) r (revs_after (pid_at r i) (value_at r i) old)

-- The revs after an accepted call: only a response's values move them.
unfoldable pub read_call : Option ℕ → Call → Option ℕ
read_call old (manager t Register) = old
read_call old (manager t (Leave c)) = old
read_call old (manager t (Respond r)) = revs_in r.count 0 r old
read_call old (manager t (Changed ps)) = old
read_call old (manager t (Waiting p)) = old
read_call old (manager t (Consumed p w)) = old
read_call old (manager t Tick) = old
read_call old (cache t c) = old
read_call old (settings t st) = old
read_call old (take_control t) = old
read_call old (link t c) = old
read_call old (round t c) = old

unfoldable pub read : Option ℕ → List Event → Option ℕ
read old [] = old
read old (e ∷ es) = read (pick (accepted e) (read_call old e.call) old) es

-- What an accepted response answers for the PID at a place: its value, and a notice if that is above the threshold of a
-- profile that the PIDs before it left switched on.
pub record Answers (s : State) (t : ℕ) (r : Response) (i : ℕ) : Type 0 where
  pub value : get_or (step s (response t r)).details.values i 0 ≡ value_at r i
  pub notice : get_or (step s (response t r)).details.notices i false ≡ notice_of (pid_at r i) (value_at r i) (switched i 0 r s.profiles)

-- Two bytes, divided by four.
abbrev pub most_revs : ℕ
most_revs = 16383

pub record Claim : Type 0 where
  -- of any box, whatever its session
  pub answers : (s : State) (t : ℕ) (r : Response) → accepted_by (step s (response t r)).answer ≡ true
      → (i : ℕ) → i < r.count → Answers s t r i
  pub revs : (t : ℕ) (st : Settings) (ps : Profiles) (cs : List Call)
      → (box_after t st ps cs).desk.revs ≡ read no_revs (happened (start_of t st ps).state cs)
  pub profiles : (t : ℕ) (st : Settings) (ps : Profiles) (cs : List Call)
      → (box_after t st ps cs).profiles ≡ (read_after t st ps cs).profiles
  -- and so the maintenance of the same call, which goes by the profiles that the response left (`handled`)
  pub manager : (t : ℕ) (st : Settings) (ps : Profiles) (cs : List Call)
      → (box_after t st ps cs).manager ≡ (read_after t st ps cs).manager
  -- "the revs came out in the millions": they no longer can
  pub bound : (t : ℕ) (st : Settings) (ps : Profiles) (cs : List Call) → Calls cs → revs_number (box_after t st ps cs).desk.revs ≤ most_revs
