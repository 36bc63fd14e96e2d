use Rattle.manager.specs.Calls.{due_of}
use Rattle.manager.proofs.due.Goals as goal

pub returns : goal.returns
unfolding due_of
returns c = rw c.elapsed.ensures
