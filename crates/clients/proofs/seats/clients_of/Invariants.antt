use mathlib.Core.Path.{◌≡◌}
use lib.ListN.{length, take}
use Rattle.clients.specs.Rules.{places}
use Rattle.clients.specs.Seats.{clients_of}
use Rattle.clients.proofs.seats.clients_of.Given as goal

abbrev pub invariant-loop-i : goal.invariant-loop-i
invariant-loop-i l = (length l.clients ≡ places) × (take l.i l.clients ≡ take l.i (clients_of l.marks l.fn.seats))
