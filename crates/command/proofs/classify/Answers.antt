-- `command::classify` meets its contract: the steps of document 01 in their order.
use Rattle.std.proofs.Common.{◌∙◌}
use Rattle.command.specs.Laws.{told, class_range, class_other}
use Rattle.command.proofs.classify.Goals as goal

-- The clauses, each under its name.
told_by : {A B : Type 0} → A × B → record { value : A; result_value : B }
told_by p = record { value = p.0; result_value = p.1 }

pub returns-in-Some : goal.returns-in-Some
returns-in-Some c =
    told_by (told (class_range _ _ _ (rw c.strip_response_count-normalized.ensures at c.supported_pids_index.ensures) c.in-Some.is))

pub returns-in-None : goal.returns-in-None
returns-in-None c =
    let s = c.strip_response_count-normalized.ensures in
    told_by (told (rw s at c.wire_command_to_pid.ensures ∙ class_other _ _ (rw s at c.supported_pids_index.ensures) c.in-None.is))
