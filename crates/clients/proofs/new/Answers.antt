use mathlib.Core.Path.{refl}
use Rattle.clients.specs.Rules.{newcomer}
use Rattle.clients.proofs.new.Goals as goal

pub returns : goal.returns
unfolding newcomer
returns c = refl
