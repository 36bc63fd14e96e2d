use Rattle.manager.specs.Rows.{register_rows_law}
use Rattle.manager.proofs.rows.register.Goals as goal

pub returns : goal.returns
returns c =
    let a = c.args in
    record {
      table_len = c.sweep.ensures.table_len;
      result_after = rw (c.sweep.ensures.result_after, c.empty-outbox.ensures) (register_rows_law a.terms a.table.now);
    }
