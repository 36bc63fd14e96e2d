-- `history_said::taken` meets its contract.
use Rattle.history_said.specs.Texts.{taken_text}
use Rattle.history_said.proofs.taken.Goals as goal

pub returns-in-Some : goal.returns-in-Some
unfolding taken_text
returns-in-Some g c = rw c.in-Some.is c.control.ensures

pub returns-in-None : goal.returns-in-None
unfolding taken_text
returns-in-None g c = rw c.in-None.is c.put.ensures
