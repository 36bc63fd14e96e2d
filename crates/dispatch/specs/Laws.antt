-- A call is what the match on it found, and with the test of its time it is a step of the box.
use Rattle.std.specs.Prelude.{◌≡◌, ℕ, true, false, List, [], ◌==◌}
use Rattle.std.proofs.Math.Bool.{and-false}
use Rattle.std.proofs.Common.{ap, ◌∙◌}
use Rattle.std.proofs.Math.Path.{sym}
use Rattle.base.specs.Choice.{pick, cases}
use Rattle.cache.specs.Rules.{filled_by}
use Rattle.obd2.specs.Answers.{Answers}
use Rattle.obd2.specs.Call as history
use Rattle.obd2.specs.Call.{Fit, time_of}
use Rattle.obd2.specs.Done.{done_of}
use Rattle.obd2.specs.History.{refused, in_time, step}
use Rattle.obd2.specs.Keeps.{late, timely, step_late, step_timely, step_tells}
use Rattle.obd2.specs.Refusals.{bad_time, row_refusal, refusal_of}
use Rattle.obd2.specs.declared.State.{State}
use Rattle.reply.specs.declared.Reply.{Reply}
use Rattle.obd2.specs.Answer.{Answered}
use Rattle.obd2.specs.declared.call.Call.{Call}
use Rattle.obd2.specs.declared.call.Brought.{Brought}
use Rattle.dispatch.specs.Dispatch.{call_of, fills, area_by, area_of, Promised, All}

-- An ask's and a collect's area: a refused one leaves it.
pub filled : (n : ℕ) (out : Reply) (area : List ℕ) → filled_by n out area ≡ pick (n == 0) (filled_by n out area) area
unfolding filled_by
filled n out area = cases _ (n == 0) (λ e. rw e) (λ e. rw e)

module _ (s : State) (t : ℕ) (b : Brought) (cmd area : List ℕ) {after : List ℕ} {r : Answered} where
  -- A call is what the match on it found.
  pub found : {k k' : Call} → k ≡ k' → All s t b cmd area r after k'
      → let c = call_of t k b cmd area in (r ≡ step s c) × ((after ≡ area_of s t k b cmd area) × Promised s c r)
  unfolding All
  found e f = rw e f

  module _ (k : Call) (f : Fit (call_of t k b cmd area)) where
    promised : r ≡ step s (call_of t k b cmd area) → after ≡ area_of s t k b cmd area → All s t b cmd area r after k
    unfolding All
    promised e g =
        let c = call_of t k b cmd area in
        (e, (g, record { fits = f; tells = rw e (step_tells s c) }))

    pub refused_late : time_of (call_of t k b cmd area) ≡ t → bad_time s.time t ≡ true → r ≡ refused s 1 → after ≡ area → All s t b cmd area r after k
    unfolding area_by
    refused_late n e g h =
        let c = call_of t k b cmd area in
        let z : bad_time s.time (time_of c) ≡ true = rw n e in
        promised (g ∙ sym (step_late s c z)) (rw (late s c z, and-false (fills c)) h)

    pub done_timely : bad_time s.time (time_of (call_of t k b cmd area)) ≡ false
        → (let c = call_of t k b cmd area in Answers s c r × (after ≡ area_by (row_refusal s c) s c area))
        → All s t b cmd area r after k
    done_timely z g =
        let c = call_of t k b cmd area in
        promised (g.0.is ∙ sym (step_timely s c z)) (g.1 ∙ sym (ap (λ (n : ℕ). area_by n s c area) (timely s c z)))
