use Rattle.std.specs.Prelude.{[]}
use mathlib.Core.Path.{refl, sym, ◌∙◌}
use Rattle.obd2.specs.Answers.{answers, settled_here, settled_next, settled_none}
use Rattle.obd2.specs.Behind.{behind_by}
use Rattle.obd2.specs.Core.{with_poller, box_of, refused_is}
use Rattle.obd2.specs.Done.{link_by, done_of}
use Rattle.obd2.specs.History.{in_time}
use Rattle.obd2.specs.Refusals.{link_rows, rows_of, row_refusal}
use Rattle.poller.specs.Core.{with_connection}
use Rattle.report.specs.Summary.{none_in}
use Rattle.link_calls.proofs.connect.Goals as goal

pub returns-then-any_over : goal.returns-then-any_over
unfolding in_time row_refusal rows_of link_rows behind_by
returns-then-any_over c =
    let a = c.args in record {
      known_len = c.requires;
      answers = λ x.
          let y = with_poller x (with_connection x.polling a.known.now a.ranges.now) in
          answers (settled_here (box_of y a.core) _ 3 _ (sym c.any_over.ensures ∙ c.if-any_over.true) refl (refused_is y a.core _ _ c.refuse.ensures));
      behind = rw c.refuse.ensures;
    }

pub returns-then-open : goal.returns-then-open
unfolding in_time row_refusal rows_of link_rows behind_by
returns-then-open c =
    let a = c.args in record {
      known_len = c.requires;
      answers = λ x.
          let y = with_poller x (with_connection x.polling a.known.now a.ranges.now) in
          answers (settled_next (box_of y a.core) _ 3 _ (sym c.any_over.ensures ∙ c.if-any_over.false)
          (settled_here (box_of y a.core) _ 12 [] (sym c.open.ensures ∙ c.if-open.true) refl (refused_is y a.core _ _ c.refuse-then-open.ensures)));
      behind = rw c.refuse-then-open.ensures;
    }

pub returns : goal.returns
unfolding in_time row_refusal rows_of link_rows done_of link_by behind_by
returns c =
    let a = c.args in record {
      known_len = c.connect-linked.ensures.known_len;
      answers = λ x.
          let y = with_poller x (with_connection x.polling a.known.now a.ranges.now) in
          answers (settled_next (box_of y a.core) _ 3 _ (sym c.any_over.ensures ∙ c.if-any_over.false)
          (settled_next (box_of y a.core) _ 12 [] (sym c.open.ensures ∙ c.if-open.false)
          (settled_none (box_of y a.core) _ (rw (c.accept.ensures, c.no_notes-notes.ensures, none_in x.pids x.rates, ← c.connect-linked.ensures.result_after x.polling)))));
      behind = rw c.accept.ensures c.connect-linked.ensures.behind;
    }
