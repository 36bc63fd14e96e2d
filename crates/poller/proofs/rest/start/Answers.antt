use mathlib.Core.Path.{refl}
use Rattle.std.specs.Prelude.{replicate}
use Rattle.poller.specs.Core.{polled_rows, known_rows, fixed_row, fixed_lengths_row, blank_polled, blank_length, put_length, started}
use Rattle.poller.proofs.rest.start.Goals as goal

pub returns : goal.returns
returns c =
    let e = c.keep-course.ensures in
    let plan = c.make-plan.result in
    let l = c.start-link.new.known in
    let none = rw c.empty-list.ensures at c.make-plan.ensures in record {
      polled_len = rw (e.polled_after, c.blank_polled.ensures) (put_length blank_polled fixed_row plan.counts polled_rows blank_length);
      known_len = rw e.known_after (put_length (replicate known_rows l) fixed_lengths_row plan.known known_rows refl);
      result_after = rw (e.polled_after, e.known_after, e.order_after, e.value, c.blank_polled.ensures, c.ends_of-ends.ensures, c.empty-list.ensures, c.default_settings-settings.ensures, c.closed-round.ensures)
          (started c.args.time c.args.order.now l c.start-link.new.ranges c.start-link.result plan c.start-link.ensures.result_after none);
      behind = c.start-link.ensures.behind;
    }
