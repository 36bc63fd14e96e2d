use lib.Ieee.{of_bits}
use Rattle.report.specs.Summary.{no_summary}
use Rattle.report.proofs.summary.none.Goals as goal

pub returns : goal.returns
unfolding no_summary of_bits
returns c = rw c.none.ensures
