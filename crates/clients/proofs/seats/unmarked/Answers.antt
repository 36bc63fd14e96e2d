use mathlib.Core.Path.{refl}
use Rattle.clients.specs.Seats.{no_marks}
use Rattle.clients.proofs.seats.unmarked.Goals as goal

pub returns : goal.returns
unfolding no_marks
returns c = refl
