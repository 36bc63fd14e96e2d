-- `history_answer::bad_line` meets its contract.
use Rattle.history_answer.specs.Texts.{bad_text}
use Rattle.history_answer.proofs.bad_line.Goals as goal

pub returns : goal.returns
unfolding bad_text
returns g c = c.put.ensures
