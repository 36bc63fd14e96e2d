use lib.Ieee.{of_bits}
use Rattle.report.specs.Report.{no_report}
use Rattle.report.proofs.no_report.Goals as goal

pub returns : goal.returns
unfolding no_report of_bits
returns c = rw (c.no_rates.ensures, c.none.ensures)
