-- `command::strip_response_count` meets its contract.
use Rattle.command.specs.Classify.{stripped}
use mathlib.Core.Path.{refl}
use lib.ListN.{length-take}
use native.Mathlib.Omega.{arith}
use Rattle.command.proofs.strip_response_count.Goals as goal

pub slice_bounds-result-end : goal.slice_bounds-result-end
slice_bounds-result-end c = simp length-take (omega arith)

pub returns : goal.returns
unfolding stripped
returns c = refl
