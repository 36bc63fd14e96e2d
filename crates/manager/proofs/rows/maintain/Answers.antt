use mathlib.Core.Path.{◌∙◌}
use Prim.Native.Nat.{◌-◌}
use Rattle.pid_table.specs.Rows.{table_of}
use Rattle.manager.specs.Rows.{maintained, report_ran}
use Rattle.manager.proofs.rows.maintain.Goals as goal

-- The clauses, each under its name.
named_table_len_2_pids_len_2_rates_len_2_ran_value_result_after : {A B C D E : Type 0} → A × (B × (C × (D × E))) → record { table_len_2 : A; pids_len_2 : B; rates_len_2 : C; ran_value : D; result_after : E }
named_table_len_2_pids_len_2_rates_len_2_ran_value_result_after p = record { table_len_2 = p.0; pids_len_2 = p.1.0; rates_len_2 = p.1.1.0; ran_value = p.1.1.1.0; result_after = p.1.1.1.1 }

pub returns : goal.returns
returns c =
    named_table_len_2_pids_len_2_rates_len_2_ran_value_result_after (let a = c.args in
    let rep = rw c.elapsed.ensures at c.report_of-report.ensures in
    let on = c.hand_on-summary.ensures in
    let ran = on.ran_value ∙ report_ran c.report_of-report.result (table_of c.upkeep-kept.new.table) a.core.metrics (a.terms.now - a.core.last) rep in
    rw c.none-none.ensures
    (c.sweep-sent.ensures.table_len, (on.pids_len_2, (on.rates_len_2, (ran, maintained a.table.now a.core a.outbox a.terms c.hand_on-summary.new.pids c.hand_on-summary.new.rates c.upkeep-kept.new.table c.sweep-sent.new.table c.upkeep-kept.result c.sweep-sent.result c.report_of-report.result c.hand_on-summary.result c.upkeep-kept.ensures.result_after c.sweep-sent.ensures.result_after rep on.result_after)))))
