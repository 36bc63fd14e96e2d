use Rattle.clients.specs.Seats.{vacant_seats}
use Rattle.clients.proofs.seats.vacant.Goals as goal

pub returns : goal.returns
unfolding vacant_seats
returns c = rw c.new-free.ensures
