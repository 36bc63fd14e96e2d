use Rattle.std.proofs.Common.{rules, ◌≡◌, length, []}
use Rattle.clients.specs.Rules.{places, nobody}
use Rattle.clients.specs.Seats.{marks_in, mapped}
use Rattle.clients.proofs.seats.marks_of.Goals as goal

pub returns : goal.returns
returns c =
    let a = c.args in
    let l : length a.clients ≡ places = search rules in
    mapped marks_in a.clients c.map.result nobody [] l c.map.ensures.items.long (λ i h. (let q = (c.map.ensures.items.at i nobody [] h).2.met in search rules))
