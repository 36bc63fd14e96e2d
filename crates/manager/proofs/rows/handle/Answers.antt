use Rattle.manager.specs.Rows.{handled}
use Rattle.manager.proofs.rows.handle.Goals as goal

pub returns : goal.returns
returns c =
    let a = c.args in
    let f = c.finish.ensures in
    record {
      table_len_2 = f.table_len_2;
      pids_len_2 = f.pids_len_2;
      rates_len_2 = f.rates_len_2;
      pids_unchanged = f.pids_unchanged;
      rates_unchanged = f.rates_unchanged;
      result_after = handled a.table.now a.core a.terms _ c.note-noted.new.table c.note-noted.result a.event c.note-noted.ensures.result_after f.result_after;
    }
