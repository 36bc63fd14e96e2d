-- DEMAND 3, whole: what holds of every start and of every list of the box's calls, refused ones included. Statements
-- only; the proof is in proofs/Theorem, histories that meet every hypothesis in proofs/Witness.
--
-- What the words mean, each read from the start, the accepted calls' arguments and, of readings, the answers:
--   the manager's Fast and Slow PIDs              `read_after`, `tracked`     agreement/specs/Claim.antt
--   rounds, asked                                 `run_call`, `mark_by`, `rounds` round_robin/specs/Marks.antt
--   connection, settings, "while"                 `read`, `Lasting`           round_robin/specs/Claim.antt
--   registered, replies since, handed, deliveries `Figures`, `hands` of `Deed` readings/specs/Claim.antt
-- Of the box itself only the poller's two lists are looked at, and which control messages wait.
use Rattle.std.specs.Prelude.{false, List, [], ◌++◌, map, ◌≡◌, ℕ, ◌≤◌, length}
use Rattle.config.specs.declared.Profiles.{Profiles}
use Rattle.config.specs.declared.Settings.{Settings}
use Rattle.control.specs.Speed.{Speed, Agree}
use Rattle.control_line.specs.Ring.{waiting}
use Rattle.pid_list.specs.Rules.{entries}
use Rattle.rounds.specs.declared.Outcome.{Outcome}
use Rattle.obd2.specs.Call.{Call, Made}
use Rattle.obd2.specs.History.{start_of, run, happened}
use Rattle.agreement.specs.Claim.{tracked, OfRound, taking, box_after, read_after, most_calls, ending}
use Rattle.readings.specs.Claim.{Readings}
use Rattle.round_robin.specs.Claim.{Asked, Lasting, sofar, there, read, marks_after, rounds_after}
use Rattle.round_robin.specs.Marks.{mark, open_over}

-- The list of calls, its round's end and the waiting messages taken, as one list.
abbrev pub settling : ℕ → Settings → Profiles → List Call → List Call → List Call
settling t st ps cs ds = cs ++ (ds ++ taking (run (box_after t st ps cs) ds))

-- `ds` are next and result calls after which the round that the list `cs` left open is over.
pub record Ending (t : ℕ) (st : Settings) (ps : Profiles) (cs ds : List Call) : Type 0 where
  pub of_round : OfRound ds
  pub over : open_over false (marks_after t st ps (cs ++ ds)) ≡ false

-- Of the box that a list of calls leads to, with the speeds of the PIDs.
pub record From (t : ℕ) (st : Settings) (ps : Profiles) (before : List Call) (speeds : ℕ → Speed) : Type 0 where
  pub taken : waiting (there t st ps before).line ≡ []
  -- ".. the poller's fast list is exactly the manager's Fast PIDs, its slow list the Slow ones, no PID twice."
  pub agree : Agree (entries (there t st ps before).poller.fast) (entries (there t st ps before).poller.slow) speeds
  -- "From there, whatever other calls come, while the connection stays up, every round is a single one run to its end and no further
  -- control message is taken nor setting changed, any stretch of as many rounds as the poller's fast list has entries asks each of
  -- them; in Ratio mode with that list not empty, any stretch of slow length × ratio (at least 1) rounds asks each PID of the
  -- poller's slow list.": `Lasting`, of the calls `later`, and `Asked`, with document 02's A2 for an empty fast list
  pub asked : (later : List Call) → Lasting (read t st ps before) (happened (there t st ps before) later)
      → Asked (entries (there t st ps before).poller.fast) (entries (there t st ps before).poller.slow) (read t st ps before).settings (rounds_after t st ps before later)

pub record Demand : Type 0 where
  -- "For every list of the box's calls (document 01 names them) from its start, refused ones included: after it, let a round then
  -- open end, whatever its results, take the waiting control messages in order, and ..": `ds` are any next and result calls that end it
  pub settled : (t : ℕ) (st : Settings) (ps : Profiles) (cs ds : List Call) → Made st cs → Ending t st ps cs ds
      → From t st ps (settling t st ps cs ds) (tracked (read_after t st ps cs))
  -- and such calls there are: whatever the results, at most 513 calls end the round
  pub rounds_end : (t : ℕ) (st : Settings) (ps : Profiles) (cs : List Call) → Made st cs → (os : List Outcome) → length os ≡ most_calls
      → let ds = ending os (box_after t st ps cs) in Ending t st ps cs ds × (length ds ≤ most_calls)
  -- the rounds that the rules make of the accepted calls are those that the answers tell
  pub told : (t : ℕ) (st : Settings) (ps : Profiles) (cs : List Call) → marks_after t st ps cs ≡ map mark (sofar t st ps cs)
  -- "An accepted cache ask hands out a reading exactly when a reply for its PID came since that client registered or, if
  -- later, was last handed one for it; every reading handed out is the newest such reply, and no client is handed one
  -- delivery twice."
  pub readings : (t : ℕ) (st : Settings) (ps : Profiles) (cs : List Call) → Made st cs → Readings (happened (start_of t st ps).state cs)
