use mathlib.Core.Path.{refl}
use Rattle.clients.specs.Rules.{idled_of}
use Rattle.clients.proofs.seats.end_wait.Goals as goal

pub returns : goal.returns
unfolding idled_of
returns c = λ marks. refl
