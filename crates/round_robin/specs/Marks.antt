-- What a round is, read off a history: by the rules from the accepted calls' arguments, and by the answers of `next`.
use Rattle.std.specs.Prelude.{Bool, true, false, List, [], ◌∷◌, ◌++◌, ℕ, ◌+◌}
use Rattle.agreement.specs.Claim.{Reading, managed_by, read_call}
use Rattle.base.specs.Choice.{pick}
use Rattle.control.specs.Outbox.{messages}
use Rattle.control_line.specs.Ring.{push_all_of, take_of}
use Rattle.control_line.specs.declared.ControlLine.{ControlLine}
use Rattle.poller.specs.Calls.{connect_of, fail_of, reconnect_of, begin_of}
use Rattle.rounds.specs.Next.{next_of}
use Rattle.rounds.specs.Result.{result_of}
use Rattle.rounds.specs.declared.Step.{Step}
use Rattle.rounds.specs.declared.Step.TheVariants.{Ask, End}
use Rattle.poller.specs.State.{pids_of}
use Rattle.poller.specs.declared.Poller.{Poller}
use Rattle.poller.specs.declared.Query.{Query}
use Rattle.obd2.specs.Call.{Call, manager, cache, settings, take_control, link, round, Connect, Fail, Check, Begin, Next, Result}
use Rattle.obd2.specs.Done.{listing}
use Rattle.obd2.specs.History.{Event, accepted}
use Rattle.obd2.specs.Answer.{Answer}
use Rattle.obd2.specs.Answer.{Refused, Accepted}
use Rattle.obd2.specs.declared.Said.{Said}
use Rattle.obd2.specs.declared.Said.TheVariants as said

-- A round begins; its `next` names the PIDs of a query; its `next` ends it; any other call.
pub data Mark : Type 0 where
  begun : Mark
  asked : (ps : List ℕ) → Mark
  ended : Mark
  aside : Mark

abbrev pub step_mark : Step → Query → Mark
step_mark Ask q = asked (pids_of q)
step_mark (End n) q = ended

-- By the rules: what they make of the start and the accepted calls' arguments, the manager as agreement's claim reads it, the
-- control messages that wait and the poller; and the mark of an accepted call.
pub record Running : Type 0 where
  pub reading : Reading
  pub line : ControlLine
  pub poller : Poller

abbrev pub polls : Running → Poller → Running
polls k p = record { reading = k.reading; line = k.line; poller = p }

unfoldable pub run_call : Running → Call → Running
run_call k (manager t c) = record {
  reading = read_call k.reading (manager t c);
  line = push_all_of k.line (messages (managed_by k.reading t c).outbox);
  poller = k.poller;
}
run_call k (cache t c) = k
run_call k (settings t st) = record { reading = read_call k.reading (settings t st); line = k.line; poller = k.poller }
run_call k (take_control t) = record { reading = k.reading; line = (take_of k.line).line; poller = listing k.poller (take_of k.line).taken }
run_call k (link t (Connect session)) = polls k (connect_of k.poller session).poller
run_call k (link t Fail) = polls k (fail_of k.poller).poller
run_call k (link t Check) = polls k (reconnect_of k.poller t).poller
run_call k (round t Begin) = polls k (begin_of k.poller k.reading.settings)
run_call k (round t Next) = polls k (next_of k.poller t).poller
run_call k (round t (Result o)) = polls k (result_of k.poller t o)

unfoldable pub mark_by : Running → Call → Mark
mark_by k (manager t c) = aside
mark_by k (cache t c) = aside
mark_by k (settings t st) = aside
mark_by k (take_control t) = aside
mark_by k (link t c) = aside
mark_by k (round t Begin) = begun
mark_by k (round t Next) = step_mark (next_of k.poller t).step (next_of k.poller t).poller.round.due
mark_by k (round t (Result o)) = aside

-- Over a history: a refused call leaves no mark.
unfoldable pub running : Running → List Event → Running
running k [] = k
running k (e ∷ h) = running (pick (accepted e) (run_call k e.call) k) h

unfoldable pub marks : Running → List Event → List Mark
marks k [] = []
marks k (e ∷ h) = pick (accepted e) (mark_by k e.call) aside ∷ marks (pick (accepted e) (run_call k e.call) k) h

-- By the answers: the same marks. `marks_told` in proofs/Runs.
abbrev pub next_mark : Said → Query → Mark
next_mark said.Started q = aside
next_mark (said.Client n) q = aside
next_mark said.Done q = aside
next_mark (said.Asked x) q = aside
next_mark (said.Collected p w) q = aside
next_mark said.GivenUp q = aside
next_mark (said.Taken x) q = aside
next_mark (said.Connecting x) q = aside
next_mark (said.Check b) q = aside
next_mark (said.Step x) q = step_mark x q

-- An accepted call.
abbrev pub mark_done : Call → Said → Query → Mark
mark_done (manager t c) a q = aside
mark_done (cache t c) a q = aside
mark_done (settings t st) a q = aside
mark_done (take_control t) a q = aside
mark_done (link t c) a q = aside
mark_done (round t Begin) a q = begun
mark_done (round t Next) a q = next_mark a q
mark_done (round t (Result o)) a q = aside

abbrev pub mark_of : Call → Answer → Query → Mark
mark_of c (Refused n) q = aside
mark_of c (Accepted a) q = mark_done c a q

abbrev pub mark : Event → Mark
mark e = mark_of e.call e.answer e.details.query

-- Whether a round is open after a mark, and after several. `open_run` in proofs/Reading: so it is of the box.
abbrev pub open_by : Mark → Bool → Bool
open_by begun b = true
open_by (asked ps) b = b
open_by ended b = false
open_by aside b = b

unfoldable pub open_over : Bool → List Mark → Bool
open_over b [] = b
open_over b (m ∷ ms) = open_over (open_by m b) ms

-- The PIDs asked so far in the round that is open, and the round that ends.
abbrev pub asked_by : Mark → List ℕ → List ℕ
asked_by begun xs = []
asked_by (asked ps) xs = xs ++ ps
asked_by ended xs = []
asked_by aside xs = xs

abbrev pub ended_by : Mark → List ℕ → List (List ℕ)
ended_by begun xs = []
ended_by (asked ps) xs = []
ended_by ended xs = xs ∷ []
ended_by aside xs = []

unfoldable pub rounds_in : List ℕ → List Mark → List (List ℕ)
rounds_in xs [] = []
rounds_in xs (m ∷ ms) = ended_by m xs ++ rounds_in (asked_by m xs) ms

-- The PIDs asked in each completed round, in order, where no round is open before the marks.
abbrev pub rounds : List Mark → List (List ℕ)
rounds ms = rounds_in [] ms

-- The PIDs asked in some rounds.
unfoldable pub joined : List (List ℕ) → List ℕ
joined [] = []
joined (xs ∷ rs) = xs ++ joined rs
