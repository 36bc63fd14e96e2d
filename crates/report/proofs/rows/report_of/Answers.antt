use Rattle.report.specs.Report.{report_of}
use Rattle.report.proofs.rows.report_of.Goals as goal

pub returns : goal.returns
unfolding report_of
returns c = rw (c.rates_of-rates.ensures, c.hit_rate-hitrate.ensures)
