use Rattle.std.proofs.Common.{◌≡◌, [], length}
use Rattle.captures.proofs.run.Given as goal

abbrev pub invariant-loop : goal.invariant-loop
invariant-loop g l = (length l.hold ≡ length l.initial.hold) × (l.out ≡ [])
