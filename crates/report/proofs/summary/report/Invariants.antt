use Rattle.report.specs.Summary.{Filled, rated_in}
use Rattle.report.proofs.summary.report.Given as goal

abbrev pub invariant-loop-i : goal.invariant-loop-i
invariant-loop-i l = Filled (rated_in l.pids l.rates) l.listed.list l.i
