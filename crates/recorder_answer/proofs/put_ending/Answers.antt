-- `recorder_answer::put_ending` meets its contract.
use Rattle.recorder_answer.specs.Laws.{end_none, end_some}
use Rattle.recorder_answer.proofs.put_ending.Goals as goal

pub returns-then-count-eq0 : goal.returns-then-count-eq0
returns-then-count-eq0 g c = rw (end_none _ c.if-count-eq0.true) at c.put_whole.ensures

pub returns-else-count-eq0 : goal.returns-else-count-eq0
returns-else-count-eq0 g c = rw (end_some _ c.if-count-eq0.false) at c.put_whole-else-count-eq0.ensures
