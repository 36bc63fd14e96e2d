-- `history_said::connecting` meets its contract.
use Rattle.history_said.specs.Texts.{connecting_text}
use Rattle.history_said.proofs.connecting.Goals as goal

pub returns-in-Connected : goal.returns-in-Connected
unfolding connecting_text
returns-in-Connected g c = rw c.in-Connected.is c.put.ensures

pub returns-in-Failed : goal.returns-in-Failed
unfolding connecting_text
returns-in-Failed g c = rw c.in-Failed.is c.put-in-Failed.ensures

pub returns-in-Already : goal.returns-in-Already
unfolding connecting_text
returns-in-Already g c = rw c.in-Already.is c.put-in-Already.ensures
