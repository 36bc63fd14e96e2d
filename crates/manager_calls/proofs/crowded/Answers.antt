use mathlib.Core.Path.{sym, ◌∙◌}
use Rattle.manager.specs.Rows.{manager_of}
use Rattle.manager_calls.specs.Send.{room_enough}
use Rattle.manager_calls.proofs.crowded.Goals as goal

pub returns-then-crowded : goal.returns-then-crowded
returns-then-crowded c = c.crowded-then-crowded.ensures ∙ rw c.tried.ensures

pub returns : goal.returns
returns c =
    let a = c.args in
    sym (room_enough a.waiting (manager_of a.table.now a.manager) a.terms a.event (sym c.crowded.ensures ∙ c.if-crowded.false))
