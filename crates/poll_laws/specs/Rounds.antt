-- A round ends: each `next` ends it or issues one of the queries that are left to it, and no result adds any.
use Rattle.std.specs.Prelude.{Bool, true, false, List, [], ◌∷◌, ◌≡◌, ℕ, ◌<◌, ◌≤◌, length}
use Rattle.base.specs.Count.{more_of}
use Rattle.plan.specs.Steps.{left_of}
use Rattle.rounds.specs.Next.{next_of}
use Rattle.rounds.specs.Result.{result_of}
use Rattle.poller.specs.State.{open_of, due_of}
use Rattle.rounds.specs.declared.Outcome.{Outcome}
use Rattle.poller.specs.declared.Phase.{Phase}
use Rattle.poller.specs.declared.Phase.TheVariants.{Closed, First, FastDue, Test, SlowDue, Multi, MultiDue, Over}
use Rattle.poller.specs.declared.Poller.{Poller}
use Rattle.rounds.specs.declared.Step.{Step}
use Rattle.rounds.specs.declared.Step.TheVariants.{Ask, End}
use Rattle.rounds.specs.declared.Stepped.{Stepped}

-- The queries that a round may still issue, at most.
abbrev pub queries_in : Phase → ℕ → ℕ
queries_in Closed n = 0
queries_in First n = 2
queries_in FastDue n = 1
queries_in Test n = 1
queries_in SlowDue n = 0
queries_in Multi n = n
queries_in MultiDue n = n
queries_in Over n = 0

abbrev pub queries_left : Poller → ℕ
queries_left p = queries_in p.round.phase (length (left_of p.plan))

-- What a step of an open round does: it ends the round, with the number of queries issued, or it issues one more, whose result
-- is then due, and fewer are left.
pub data Stride (p : Poller) (n : ℕ) (r : Stepped) : Type 0 where
  ended : r.step ≡ End p.round.issued → r.poller.round.phase ≡ Closed → Stride p n r
  issued : r.step ≡ Ask → due_of r.poller.round.phase ≡ true → r.poller.round.issued ≡ more_of p.round.issued → queries_left r.poller < n → Stride p n r

-- A result leaves the round open or closed as it was, no result due, no more queries than before, and the count of those issued.
pub record Settled (p r : Poller) : Type 0 where
  pub stands : open_of r.round.phase ≡ open_of p.round.phase
  pub taken : due_of r.round.phase ≡ false
  pub fewer : queries_left r ≤ queries_left p
  pub count : r.round.issued ≡ p.round.issued

-- ---- the bound

-- A turn: the time of a `next`, and the result of its query.
pub record Turn : Type 0 where
  pub asked : ℕ
  pub came : ℕ
  pub outcome : Outcome

-- Whether the round ends within the turns, at the `next` of one of them.
abbrev pub or_ends : Step → Bool → Bool
or_ends Ask later = later
or_ends (End k) later = true

unfoldable pub ends_within : List Turn → Poller → Bool
ends_within [] p = false
ends_within (u ∷ us) p =
    or_ends (next_of p u.asked).step (ends_within us (result_of (next_of p u.asked).poller u.came u.outcome))

-- The poller after a turn.
abbrev pub turned : Turn → Poller → Poller
turned u p = result_of (next_of p u.asked).poller u.came u.outcome
