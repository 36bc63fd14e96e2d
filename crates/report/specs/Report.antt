-- The report of a maintenance, and of a call without one.
use Rattle.std.specs.Prelude.{true, false, List, ℕ, pos}
use Rattle.std.specs.Float.{fin}
use Rattle.rate.specs.Rate.{hit_rate_of}
use Rattle.pid_table.specs.declared.PidInfo.{PidInfo}
use Rattle.report.specs.Rates.{rates_from, no_rates}
use Rattle.report.specs.Metrics.{no_metrics}
use Rattle.report.specs.declared.metrics.CacheMetrics.{CacheMetrics}
use Rattle.report.specs.declared.Report.{Report}

unfoldable pub no_report : Report
no_report = record { ran = false; rates = no_rates; metrics = no_metrics; hitrate = fin false 0 (pos 0) }

unfoldable pub report_of : List PidInfo → CacheMetrics → ℕ → Report
report_of table m elapsed =
    record { ran = true; rates = rates_from elapsed 0 table no_rates; metrics = m; hitrate = hit_rate_of m.hits m.misses }
