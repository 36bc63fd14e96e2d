use Rattle.writing.specs.Fill.{Left}
use lib.ListN.{length, drop}
use mathlib.Core.Path.{◌≡◌}
use Rattle.writing.proofs.put.Given as goal

abbrev pub invariant-loop-b : goal.invariant-loop-b
invariant-loop-b l = (length l.out ≡ length l.initial.out) × Left l.initial.out l.at l.s l.out l.place (drop l.b-index l.s)
