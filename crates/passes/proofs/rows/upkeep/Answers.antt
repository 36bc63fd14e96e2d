use Rattle.passes.specs.Sweep.{sweeps_of}
use Rattle.passes.proofs.rows.upkeep.Goals as goal

pub returns : goal.returns
unfolding sweeps_of
returns c =
    record {
      table_len = c.sweep.ensures.table_len;
      result_after = rw (c.sweep.ensures.result_after, c.sweep-demoted.ensures.result_after, c.sweep-registered.ensures.result_after);
    }
