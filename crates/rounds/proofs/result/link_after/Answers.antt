use Rattle.rounds.specs.Result.{link_after}
use Rattle.rounds.proofs.result.link_after.Goals as goal

pub returns-then-gone : goal.returns-then-gone
unfolding link_after
returns-then-gone c = record { result_after = λ lengths taught. rw c.if-gone.true (c.lose.ensures.result_after taught); behind = rw c.if-gone.true c.lose.ensures.behind }

pub returns : goal.returns
unfolding link_after
returns c = record { result_after = λ lengths taught. rw c.if-gone.false; behind = rw c.if-gone.false }
