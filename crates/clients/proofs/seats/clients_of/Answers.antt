use mathlib.Core.Path.{◌≡◌, refl, sym, ap, ◌∙◌}
use native.Mathlib.Omega.{arith}
use lib.ListN.{length, length-set}
use borrow.Author.Rules.{rules}
use Rattle.base.specs.Each.{filled_more, filled_all}
use Rattle.clients.specs.Rules.{places, nobody}
use Rattle.clients.specs.Seats.{clients_of, clients_length, client_at, nobodies_length}
use Rattle.clients.proofs.seats.clients_of.Goals as goal

pub loop-i-init : goal.loop-i-init
loop-i-init c = (ap length c.nobodies-clients.ensures ∙ nobodies_length, refl)

pub loop-i-preserved : goal.loop-i-preserved
loop-i-preserved c =
    let s = c.args in
    let i = c.loop-i.i in
    let l : length s.seats ≡ places = search rules in
    let n = clients_length s.marks s.seats in
    let long = c.loop-i.invariant.0 in (
      simp length-set long,
      filled_more c.loop-i.clients (clients_of s.marks s.seats) i _ nobody (omega arith) (omega arith) (sym (client_at s.marks s.seats i (omega arith))) c.loop-i.invariant.1,
    )

pub returns : goal.returns
returns c =
    let s = c.args in
    let l : length s.seats ≡ places = search rules in
    let n = clients_length s.marks s.seats in
    let long = c.loop-i.invariant.0 in
    filled_all c.loop-i.clients (clients_of s.marks s.seats) c.loop-i.i (omega arith) (omega arith) c.loop-i.invariant.1
