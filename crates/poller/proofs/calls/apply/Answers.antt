use mathlib.Core.Path.{refl}
use Rattle.poller.specs.Core.{counts_row, fixed_row, listed_fast, listed_slow, listed_other, listed_length}
use Rattle.poller.proofs.calls.apply.Goals as goal

pub returns : goal.returns
returns c =
    let p = c.args.polled.now in
    let g = c.applied-lists.result.fast.pids in
    let h = c.applied-lists.result.slow.pids in record {
      polled_len = listed_length p g h c.requires;
      result_after = λ x.
          rw (
            c.ends_of-p-2.ensures,
            c.ends_of-p.ensures,
            listed_fast p g h c.requires,
            listed_slow p g h c.requires,
            listed_other p g h c.requires counts_row refl refl,
            listed_other p g h c.requires fixed_row refl refl,
            c.applied-lists.ensures,
            c.slow-others.ensures,
            c.fast-had.ensures,
          );
    }
