-- `history_said::ecu` meets its contract.
use Rattle.history_said.specs.Laws.{ecu_none, ecu_some}
use Rattle.history_said.proofs.ecu.Goals as goal

pub returns-then-count-eq0 : goal.returns-then-count-eq0
returns-then-count-eq0 g c = rw (ecu_none _ c.if-count-eq0.true) c.byte.ensures

pub returns-else-count-eq0 : goal.returns-else-count-eq0
returns-else-count-eq0 g c = rw (ecu_some _ c.if-count-eq0.false) c.number.ensures
