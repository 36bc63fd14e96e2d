use mathlib.Core.Path.{◌∙◌}
use Rattle.std.specs.Prelude.{[], get_or}
use Rattle.rounds.specs.Cases.{result_due_law}
use Rattle.rounds.specs.Core.{taught_is}
use Rattle.poller.specs.Core.{held, counts_row, polled_rows, lengths_row, known_rows, poller_of, put_length}
use Rattle.rounds.proofs.result.result.Goals as goal

pub returns : goal.returns
returns c =
    let a = c.args in
    let counts = c.learn-lessons.result.counts in
    let lengths = c.learn-lessons.result.known in
    let long = c.requires.polled_len in
    let both = c.requires.known_len in
    let e = c.link_after-p.ensures in record {
      polled_len_2 = put_length a.polled.now counts_row counts polled_rows long;
      known_len_2 = put_length a.known.now lengths_row lengths known_rows both;
      by_index = λ order.
          let x = held a.polled.now a.known.now order a.ranges.now in
          taught_is x a.p counts lengths c.link_after-p.new.ranges _ _ _ long both
          ∙ rw (
            result_due_law (poller_of x a.p) a.time a.o,
            e.result_after (get_or a.known.now lengths_row []) lengths,
            c.clock_after.ensures,
            c.round_after-p.ensures,
            c.learn-lessons.ensures,
            c.lost-gone.ensures,
            c.refuses-denied.ensures,
          );
      behind = rw c.lost-gone.ensures at e.behind;
    }
