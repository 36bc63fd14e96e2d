-- `transcript::start` meets its contract.
use Rattle.transcript.specs.Lines.{start_line}
use mathlib.Core.Path.{refl}
use Rattle.transcript.proofs.start.Goals as goal

pub returns : goal.returns
unfolding start_line
returns c = refl
