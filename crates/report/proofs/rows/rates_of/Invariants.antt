use mathlib.Core.Path.{◌≡◌}
use lib.ListN.{drop}
use Rattle.pid_table.specs.Rows.{table_of}
use Rattle.report.specs.Rates.{no_rates, rates_from}
use Rattle.report.proofs.rows.rates_of.Given as goal

abbrev pub invariant-loop-i : goal.invariant-loop-i
invariant-loop-i l = rates_from l.elapsed l.i (drop l.i (table_of l.table)) l.found ≡ rates_from l.elapsed 0 (table_of l.table) no_rates
