use Rattle.rounds.specs.Next.{end_of}
use Rattle.rounds.proofs.next.end.Goals as goal

pub returns : goal.returns
unfolding end_of
returns c = λ x. rw c.closed-closed.ensures
