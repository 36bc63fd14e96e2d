use Rattle.poller.specs.Core.{lengths_row, known_rows, with_connection, put_length, lengths_put, plan_lengths}
use Rattle.poller.specs.Cases.{connect_done}
use Rattle.poller.proofs.calls.connect.Goals as goal

pub returns : goal.returns
returns c =
    let a = c.args in
    let l = c.connect-made.new.known in record {
      known_len = put_length a.known.now lengths_row l known_rows c.requires;
      result_after = λ x.
          let y = with_connection x a.known.now a.ranges.now in
          rw (connect_done, lengths_put y l c.requires, plan_lengths y l c.requires, ← c.connect-made.ensures.result_after);
      behind = c.connect-made.ensures.behind;
    }
