use Rattle.std.specs.Prelude.{not, []}
use mathlib.Core.Path.{refl, sym, ap, ◌∙◌}
use Rattle.obd2.specs.Answers.{answers, settled_here, settled_next, settled_none}
use Rattle.obd2.specs.Behind.{behind_by}
use Rattle.obd2.specs.Core.{with_poller, box_of, refused_is}
use Rattle.obd2.specs.Done.{round_by, done_of}
use Rattle.obd2.specs.History.{in_time}
use Rattle.obd2.specs.Refusals.{round_rows, rows_of, row_refusal}
use Rattle.poller.specs.Core.{held}
use Rattle.report.specs.Summary.{none_in}
use Rattle.round_calls.proofs.result.Goals as goal

pub returns-then-not-due : goal.returns-then-not-due
unfolding in_time row_refusal rows_of round_rows behind_by
returns-then-not-due c =
    let a = c.args in record {
      polled_after = c.requires.polled_len;
      known_after = c.requires.known_len;
      fact = λ x order.
          let y = with_poller x (held a.polled.now a.known.now order a.ranges.now) in
          answers (settled_here (box_of y a.core) _ 13 [] (ap not (sym c.due.ensures) ∙ c.if-not-due.true-raw) refl (refused_is y a.core _ _ c.refuse.ensures));
      behind = rw c.refuse.ensures;
    }

pub returns : goal.returns
unfolding in_time row_refusal rows_of round_rows done_of round_by behind_by
returns c =
    let a = c.args in
    let e = c.result-taught.ensures in record {
      polled_after = e.polled_len_2;
      known_after = e.known_len_2;
      fact = λ x order.
          let y = with_poller x (held a.polled.now a.known.now order a.ranges.now) in
          answers (settled_next (box_of y a.core) _ 13 [] (ap not (sym c.due.ensures) ∙ c.if-not-due.false-raw)
          (settled_none (box_of y a.core) _ (rw (c.accept.ensures, c.no_notes-notes.ensures, none_in x.pids x.rates, e.by_index order))));
      behind = rw c.accept.ensures e.behind;
    }
