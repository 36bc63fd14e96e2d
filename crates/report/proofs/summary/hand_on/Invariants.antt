use mathlib.Core.Path.{◌≡◌}
use lib.ListN.{length}
use Rattle.report.specs.Summary.{Filled, pids_of, rates_of}
use Rattle.report.proofs.summary.hand_on.Given as goal

abbrev pub invariant-loop-i : goal.invariant-loop-i
invariant-loop-i l = (length l.list ≡ 256) × Filled (pids_of l.list) l.pids l.i × Filled (rates_of l.list) l.rates l.i
