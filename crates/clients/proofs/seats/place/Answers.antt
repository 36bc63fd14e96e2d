use Rattle.std.proofs.Common.{rules, ◌≡◌, length}
use Rattle.clients.specs.Rules.{places}
use Rattle.clients.specs.Seats.{found_first}
use Rattle.clients.proofs.seats.place.Goals as goal

pub returns : goal.returns
returns c =
    let a = c.args in
    let l : length a.seats ≡ places = search rules in
    rw c.first.ensures (found_first a.number a.seats l)
