use Rattle.std.proofs.Common.{◌≡◌, drop}
use Rattle.base.specs.Each.{some_of}
use Rattle.obd2.specs.Refusals.{over_range}
use Rattle.link_calls.proofs.any_over.Given as goal

abbrev pub invariant-loop-range : goal.invariant-loop-range
invariant-loop-range l = some_of over_range l.fn.ranges ≡ some_of over_range (drop l.range-index l.fn.ranges)
