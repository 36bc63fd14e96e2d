-- `history_said::control` meets its contract.
use Rattle.history_said.specs.Texts.{control_text}
use Rattle.history_said.proofs.control.Goals as goal

pub returns-in-SetPidPriority : goal.returns-in-SetPidPriority
returns-in-SetPidPriority g c = rw c.in-SetPidPriority.is c.set.ensures

pub returns-in-RemovePid : goal.returns-in-RemovePid
unfolding control_text
returns-in-RemovePid g c = rw c.in-RemovePid.is c.named.ensures
