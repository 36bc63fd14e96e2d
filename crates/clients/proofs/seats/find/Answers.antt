use Rattle.std.proofs.Common.{eq-eqb, ne_eqb, arith}
use Rattle.clients.specs.Rules.{seat_of}
use Rattle.clients.proofs.seats.find.Goals as goal

pub returns-then-number-eq0 : goal.returns-then-number-eq0
unfolding seat_of
returns-then-number-eq0 c = rw (eq-eqb _ _ c.if-number-eq0.true) (omega arith)

pub returns : goal.returns
unfolding seat_of
returns c = rw (ne_eqb _ _ c.if-number-eq0.false) c.place.ensures
