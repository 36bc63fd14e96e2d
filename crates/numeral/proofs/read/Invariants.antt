use Rattle.std.proofs.Common.{◌≡◌, ◌≤◌, drop}
use Rattle.numeral.specs.Decimal.{number_from, number_of}
use Rattle.numeral.proofs.read.Given as goal

abbrev pub invariant-loop-b : goal.invariant-loop-b
invariant-loop-b l = (l.value ≤ l.max) × (number_of l.max l.s ≡ number_from l.max l.value (drop l.b-index l.s))
