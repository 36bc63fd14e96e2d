use mathlib.Core.Path.{refl}
use Rattle.clients.specs.Rules.{waiting_of}
use Rattle.clients.proofs.seats.begin_wait.Goals as goal

pub returns : goal.returns
unfolding waiting_of
returns c = λ marks. refl
