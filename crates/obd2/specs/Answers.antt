-- Document 01's number and values of each answer, what every call promises of them, and the ways to a call's answer that the
-- functions take.
use Rattle.std.specs.Prelude.{None, Option, Some, ◌≡◌, ℕ, Bool, true, false, List, [], ◌∷◌, ◌++◌, map, take, ◌==◌, ◌≢◌}
use Rattle.std.specs.Prelude.{refl}
use Rattle.std.proofs.Common.{sym, ◌∙◌, eqb-true, ne_eqb}
use Rattle.base.specs.Choice.{pick, one, cases}
use Rattle.base.specs.Refusal.{Rows, first_of, first_here, first_next, first_none, first_among, first_past, numbered}
use Rattle.cache.specs.Rules.{values_of as askedValues}
use Rattle.config.specs.Blank.{no_profiles}
use Rattle.config.specs.Defaults.{default_settings}
use Rattle.config.specs.declared.PidPriority.TheVariants.{Fast, Slow}
use Rattle.config.specs.declared.Profiles.{Profiles}
use Rattle.config.specs.declared.Settings.{Settings}
use Rattle.control.specs.declared.DongleMessage.{DongleMessage}
use Rattle.control.specs.declared.DongleMessage.TheVariants.{SetPidPriority, RemovePid}
use Rattle.link.specs.declared.Connecting.{Connecting as Connect}
use Rattle.link.specs.declared.Connecting.TheVariants.{Connected, Failed, Already}
use Rattle.poller.specs.State.{pids_of}
use Rattle.poller.specs.declared.Query.{Query}
use Rattle.rounds.specs.declared.Step.{Step as Stepping}
use Rattle.rounds.specs.declared.Step.TheVariants.{Ask, End}
use Rattle.obd2.specs.Call.{Call, time_of, FitSettings}
use Rattle.obd2.specs.Done.{done_of}
use Rattle.obd2.specs.History.{refused, settled, in_time, start_of}
use Rattle.obd2.specs.Refusals.{row_refusal, start_refusal}
use Rattle.obd2.specs.State.{at, no_details, answered, started}
use Rattle.obd2.specs.declared.State.{State}
use Rattle.obd2.specs.Answer.{Answer}
use Rattle.obd2.specs.Answer.{Refused, Accepted}
use Rattle.obd2.specs.declared.Said.{Said}
use Rattle.obd2.specs.declared.Said.TheVariants.{Started, Client, Done, Asked, Collected, GivenUp, Taken as Took, Connecting, Check, Step}
use Rattle.obd2.specs.Answer.{Answered}
use Rattle.obd2.specs.declared.Details.{Details}

-- The refusal's number, 0 where the call is accepted.
abbrev pub number_in : Answer → ℕ
number_in (Refused n) = n
number_in (Accepted a) = 0

-- The values that an answer names, with what stands beside it: a client's number; a PID, the wait of a Consumed and the lengths of
-- a reply's lines; for each place of a response its value, then whether a profile gave notice; a control message's PID and priority
-- (0 Fast, 1 Slow); whether a reconnect check says yes; a query's PIDs and ECU count; a round's request count.
abbrev pub line_lengths : Details → List ℕ
line_lengths d = take d.lines d.lengths

abbrev pub taken_values : Option DongleMessage → List ℕ
taken_values None = []
taken_values (Some (SetPidPriority p Fast)) = p ∷ 0 ∷ []
taken_values (Some (SetPidPriority p Slow)) = p ∷ 1 ∷ []
taken_values (Some (RemovePid p)) = p ∷ []

abbrev pub connecting_values : Connect → List ℕ
connecting_values Connected = []
connecting_values Failed = []
connecting_values Already = []

abbrev pub step_values : Stepping → Query → List ℕ
step_values Ask q = pids_of q ++ (q.ecu ∷ [])
step_values (End n) q = n ∷ []

abbrev pub said_values : Said → Details → List ℕ
said_values Started d = []
said_values (Client n) d = n ∷ []
said_values Done d = d.values ++ map one d.notices
said_values (Asked x) d = askedValues x (line_lengths d)
said_values (Collected p w) d = p ∷ w ∷ line_lengths d
said_values GivenUp d = []
said_values (Took x) d = taken_values x
said_values (Connecting x) d = connecting_values x
said_values (Check b) d = one b ∷ []
said_values (Step x) d = step_values x d.query

abbrev pub values_of : Answer → Details → List ℕ
values_of (Refused n) d = []
values_of (Accepted a) d = said_values a d

-- An answer has the number n, 0 where the call is accepted, and then the values of what is said.
pub record Tells (n : ℕ) (said : Said) (d : Details) (r : Answered) : Type 0 where
  pub number : number_in r.answer ≡ n
  pub values : values_of r.answer r.details ≡ pick (n == 0) (said_values said d) []

-- What a settled call tells.
pub settled_tells : (n : ℕ) (s x : State) (said : Said) (d : Details) {r : Answered} → r ≡ settled n s (answered x (Accepted said) d) → Tells n said d r
settled_tells n s x said d e = cases _ (n == 0)
    (λ z. rw e (rw z (record { number = sym (eqb-true n 0 z); values = rw z })))
    (λ z. rw e (rw z (record { number = refl; values = rw z })))

-- WHAT THE FUNCTION OF A CALL PROMISES, behind the test of its time: state, answer and what stands beside it are the call's, with
-- its number and values.
pub record Answers (s : State) (c : Call) (r : Answered) : Type 0 where
  pub is : r ≡ in_time s c
  pub tells : Tells (row_refusal s c) (done_of s c).said (done_of s c).details r

pub answers : {s : State} {c : Call} {r : Answered} → r ≡ in_time s c → Answers s c r
unfolding in_time
answers {s} {c} e = record { is = e; tells = settled_tells (row_refusal s c) s (at (done_of s c).state (time_of c)) (done_of s c).said (done_of s c).details e }

-- And a start: a caller can hand in its settings, and the answer has document 01's number; no values.
pub record PromisedStart (t : ℕ) (st : Settings) (ps : Profiles) (r : Answered) : Type 0 where
  pub fits : FitSettings st
  pub tells : Tells (start_refusal t st ps) Started no_details r

pub promised_start : (t : ℕ) (st : Settings) (ps : Profiles) {r : Answered} → FitSettings st → r ≡ start_of t st ps → PromisedStart t st ps r
unfolding start_of
promised_start t st ps f e = record { fits = f; tells = settled_tells (start_refusal t st ps) (started 0 default_settings no_profiles) (started t st ps) Started no_details e }

-- A call that is not refused answers what it would; one that is refused, its number.
module _ (s : State) (a : Answered) {r : Answered} where
  module _ (n : ℕ) where
    pub settled_done : n ≡ 0 → r ≡ a → r ≡ settled n s a
    settled_done e f = rw e f

    pub settled_refused : {k : ℕ} → n ≡ k → (k ≢ 0) → r ≡ refused s k → r ≡ settled n s a
    settled_refused e h f = rw (e, ne_eqb _ 0 h) f

    -- The same by a table's rows: the row that holds, and those before it that do not.
    module _ {b : Bool} (rs : Rows) where
      pub settled_here : b ≡ true → (n == 0) ≡ false → r ≡ refused s n → r ≡ settled (first_of ((n, b) ∷ rs)) s a
      settled_here e h f = rw (first_here n b rs e, h) f

      pub settled_next : b ≡ false → r ≡ settled (first_of rs) s a → r ≡ settled (first_of ((n, b) ∷ rs)) s a
      settled_next e f = rw (first_next n b rs e) f

  -- The rows in front, whose refusal a component told: one of them holds, or none does.
  module _ (n : ℕ) (qs rs : Rows) (e : n ≡ first_of qs) where
    pub settled_among : (n ≢ 0) → r ≡ refused s n → r ≡ settled (first_of (qs ++ rs)) s a
    settled_among h f = rw (first_among qs rs (λ z. h (e ∙ z)), sym e, ne_eqb n 0 h) f

    pub settled_past : numbered qs ≡ true → n ≡ 0 → r ≡ settled (first_of rs) s a → r ≡ settled (first_of (qs ++ rs)) s a
    settled_past k h f = rw (first_past qs rs k (sym e ∙ h)) f

  pub settled_none : r ≡ a → r ≡ settled (first_of []) s a
  settled_none f = settled_done (first_of []) first_none f
