use mathlib.Core.Path.{◌≡◌}
use lib.ListN.{length}
use Rattle.base.specs.Each.{each_of}
use Rattle.clients.specs.Rules.{places, marked_of}
use Rattle.clients.specs.Seats.{clients_of}
use Rattle.clients.proofs.seats.mark_all.Given as goal

abbrev pub invariant-loop-i : goal.invariant-loop-i
invariant-loop-i l = (length l.marks ≡ places) × (clients_of l.marks l.fn.seats ≡ each_of l.i (marked_of l.pid) (clients_of l.initial.marks l.fn.seats))
