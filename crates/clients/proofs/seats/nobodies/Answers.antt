use Rattle.clients.specs.Seats.{nobodies}
use Rattle.clients.proofs.seats.nobodies.Goals as goal

pub returns : goal.returns
unfolding nobodies
returns c = rw c.new-free.ensures
