use mathlib.Core.Path.{refl, sym, ◌∙◌}
use Rattle.base.specs.Choice.{false_true}
use Rattle.manager.specs.Rows.{ends_due, ends_not_due}
use Rattle.manager.proofs.rows.finish.Goals as goal

pub returns-then-due : goal.returns-then-due
returns-then-due c =
    let a = c.args in
    let m = c.maintain.ensures in
    let ran = m.ran_value in
    let e = sym c.due.ensures ∙ c.if-due.true in
    record {
      table_len_2 = m.table_len_2;
      pids_len_2 = m.pids_len_2;
      rates_len_2 = m.rates_len_2;
      pids_unchanged = (λ z. false_true (sym z ∙ ran));
      rates_unchanged = (λ z. false_true (sym z ∙ ran));
      result_after = ends_due a.table.now a.core a.terms _ a.outbox e m.result_after;
    }

pub returns-else-due : goal.returns-else-due
returns-else-due c =
    let a = c.args in
    let e = sym c.due.ensures ∙ c.if-due.false in
    record {
      table_len_2 = c.requires.table_len;
      pids_len_2 = c.requires.pids_len;
      rates_len_2 = c.requires.rates_len;
      pids_unchanged = (λ z. refl);
      rates_unchanged = (λ z. refl);
      result_after = rw c.none-summary.ensures (ends_not_due a.table.now a.core a.outbox a.terms a.pids.now a.rates.now e);
    }
