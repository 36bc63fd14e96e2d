use mathlib.Core.Path.{◌∙◌}
use lib.ListN.{length-set}
use Rattle.manager.specs.Calls.{consumed_at}
use Rattle.manager.specs.Rows.{row_is, consumed_is}
use Rattle.manager.proofs.rows.consumed.Goals as goal

pub returns : goal.returns
returns c =
    let a = c.args in
    let t = rw c.empty.ensures at c.told-sent.ensures in
    let y = rw c.promotes-promotes.ensures at c.consumed-after.ensures in
    record {
      table_len = simp length-set c.requires;
      result_after = row_is a.table.now a.core a.terms (consumed_at a.terms a.wait) a.pid c.unpack-before.result c.consumed-after.result c.pack-next.result c.told-sent.result c.unpack-before.ensures y c.pack-next.ensures t c.noted-counted.result ∙ rw c.noted-counted.ensures (consumed_is a.table.now a.core a.terms a.pid a.wait);
    }
