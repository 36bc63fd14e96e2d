-- What a call answers, in document 01's words: a refusal's number, or what is said; with the box, and what stands beside it.
use Rattle.std.specs.Prelude.{ℕ, Result, Ok, Err}
use Rattle.refusal.specs.Number.{number_of}
use Rattle.refusal.specs.declared.Refusal.{Refusal}
use Rattle.obd2.specs.declared.Said.{Said}
use Rattle.obd2.specs.declared.Details.{Details}
use Rattle.obd2.specs.declared.State.{State}
use Rattle.obd2.specs.declared.Answered as held

pub data Answer : Type 0 where
  Refused : ℕ → Answer
  Accepted : Said → Answer

pub record Answered : Type 0 where
  pub state : State
  pub answer : Answer
  pub details : Details

-- The answer that a function hands out: a refusal has document 01's number.
abbrev pub answer_of : Result Said Refusal → Answer
answer_of (Ok said) = Accepted said
answer_of (Err r) = Refused (number_of r)

-- The same of the box by value.
abbrev pub answered_in : held.Answered → Answered
answered_in r = record { state = r.state; answer = answer_of r.answer; details = r.details }
