use mathlib.Core.Path.{◌≡◌}
use Rattle.report.specs.Rates.{Carrying}
use Rattle.report.proofs.insert.Given as goal

abbrev pub invariant-loop-i : goal.invariant-loop-i
invariant-loop-i l = (l.rates.count ≡ l.n) × Carrying l.initial.rates.list l.initial.carried l.n l.rates.list l.carried l.i
