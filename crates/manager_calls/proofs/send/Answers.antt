use mathlib.Core.Path.{refl, sym, ◌∙◌}
use Rattle.manager_calls.specs.Send.{send_refused, send_done}
use borrow.Author.Rules.{rules}
use Rattle.manager_calls.proofs.send.Goals as goal

-- The clauses, each under its name.
named_table_len_2_pids_len_2_rates_len_2_pids_unchanged_rates_unchanged_result_after : {A B C D E F : Type 0} → A × (B × (C × (D × (E × F)))) → record { table_len_2 : A; pids_len_2 : B; rates_len_2 : C; pids_unchanged : D; rates_unchanged : E; result_after : F }
named_table_len_2_pids_len_2_rates_len_2_pids_unchanged_rates_unchanged_result_after p = record { table_len_2 = p.0; pids_len_2 = p.1.0; rates_len_2 = p.1.1.0; pids_unchanged = p.1.1.1.0; rates_unchanged = p.1.1.1.1.0; result_after = p.1.1.1.1.1 }

pub returns-then-crowded : goal.returns-then-crowded
returns-then-crowded c =
    let a = c.args in
    record {
      table_len_2 = search rules;
      pids_len_2 = search rules;
      rates_len_2 = search rules;
      pids_unchanged = λ z. refl;
      rates_unchanged = λ z. refl;
      result_after = rw c.none.ensures (send_refused a.table.now a.slots.now a.manager a.line a.terms a.event a.pids.now a.rates.now (sym c.crowded.ensures ∙ c.if-crowded.true));
    }

pub returns : goal.returns
returns c =
    named_table_len_2_pids_len_2_rates_len_2_pids_unchanged_rates_unchanged_result_after (let a = c.args in
    let e = c.handle-handled.ensures in (
      e.table_len_2,
      (
        e.pids_len_2,
        (
          e.rates_len_2,
          (
            e.pids_unchanged,
            (
              e.rates_unchanged,
              send_done a.table.now a.slots.now a.manager a.line a.terms a.event _ _ _ _ c.handle-handled.result c.push_all-longer.result (sym c.crowded.ensures ∙ c.if-crowded.false) e.result_after c.push_all-longer.ensures,
            ),
          ),
        ),
      ),
    ))
