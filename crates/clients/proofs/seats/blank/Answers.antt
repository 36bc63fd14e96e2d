use Rattle.clients.specs.Seats.{blank_marks}
use Rattle.clients.proofs.seats.blank.Goals as goal

pub returns : goal.returns
unfolding blank_marks
returns c = rw c.unmarked-row.ensures
