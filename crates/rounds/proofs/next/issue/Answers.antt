use Rattle.rounds.specs.Next.{issue_of}
use Rattle.rounds.proofs.next.issue.Goals as goal

pub returns : goal.returns
unfolding issue_of
returns c = λ x. rw (c.more-issued.ensures, c.row-row.ensures.0)
