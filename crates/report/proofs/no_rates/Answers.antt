use mathlib.Core.Path.{refl}
use lib.Ieee.{of_bits}
use Rattle.report.specs.Rates.{no_rates}
use Rattle.report.proofs.no_rates.Goals as goal

pub returns : goal.returns
unfolding no_rates of_bits
returns c = refl
