use mathlib.Core.Path.{refl}
use Rattle.report.specs.Summary.{no_summary}
use Rattle.manager.specs.Rows.{start_is}
use Rattle.manager.proofs.rows.start.Goals as goal

-- The clauses, each under its name.
named_table_len_ran_value_by_index : {A B C : Type 0} → A × (B × C) → record { table_len : A; ran_value : B; by_index : C }
named_table_len_ran_value_by_index p = record { table_len = p.0; ran_value = p.1.0; by_index = p.1.1 }

pub returns : goal.returns
unfolding no_summary
returns c =
    named_table_len_ran_value_by_index (let a = c.args in
    rw (c.none-summary.ensures, c.none-none.ensures)
    (c.register-sent.ensures.table_len, (refl, (λ pids rates. start_is a.terms c.register-sent.new.table c.register-sent.result pids rates c.register-sent.ensures.result_after))))
