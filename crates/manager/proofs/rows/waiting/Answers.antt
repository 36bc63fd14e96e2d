use mathlib.Core.Path.{◌∙◌}
use lib.ListN.{length-set}
use Rattle.manager.specs.Calls.{waiting_at}
use Rattle.manager.specs.Rows.{row_is, waiting_is}
use Rattle.manager.proofs.rows.waiting.Goals as goal

pub returns : goal.returns
returns c =
    let a = c.args in
    let t = rw c.empty.ensures at c.told-sent.ensures in
    record {
      table_len = simp length-set c.requires;
      result_after = row_is a.table.now a.core a.terms (waiting_at a.terms) a.pid c.unpack-before.result c.waiting-after.result c.pack-next.result c.told-sent.result c.unpack-before.ensures c.waiting-after.ensures c.pack-next.ensures t a.core.metrics ∙ waiting_is a.table.now a.core a.terms a.pid;
    }
