-- `lines::start` meets its contract.
use Rattle.lines.specs.Reading.{start_reading}
use mathlib.Core.Path.{refl}
use Rattle.lines.proofs.start.Goals as goal

pub returns : goal.returns
unfolding start_reading
returns c = refl
