use Rattle.std.proofs.Common.{◌≤◌}
use Rattle.text.specs.Cut.{Counted}
use Rattle.text.proofs.count.Given as goal

abbrev pub invariant-loop-x : goal.invariant-loop-x
invariant-loop-x l = (l.n ≤ l.x-index) × Counted l.b l.s l.x-index l.n
