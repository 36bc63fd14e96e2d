use mathlib.Core.Path.{refl}
use Rattle.plan.specs.Steps.{padded}
use Rattle.rounds.proofs.next.single.Goals as goal

pub returns : goal.returns
unfolding padded
returns c = refl
