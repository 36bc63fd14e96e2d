use Rattle.manager.specs.Rows.{changed_is}
use Rattle.manager.proofs.rows.profile_pids_changed.Goals as goal

pub returns : goal.returns
returns c =
    let a = c.args in
    record {
      table_len = c.register-told.ensures.table_len;
      result_after = changed_is a.table.now a.core a.terms c.register-told.new.table c.register-told.result c.register-told.ensures.result_after;
    }
