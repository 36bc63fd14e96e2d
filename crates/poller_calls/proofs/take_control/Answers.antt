use Rattle.std.specs.Prelude.{[]}
use mathlib.Core.Path.{refl, sym, ◌∙◌}
use Rattle.obd2.specs.Answers.{answers, settled_here, settled_next, settled_none}
use Rattle.obd2.specs.Core.{with_line, box_of, refused_is}
use Rattle.obd2.specs.Done.{done_of}
use Rattle.obd2.specs.History.{in_time}
use Rattle.obd2.specs.Refusals.{rows_of, row_refusal}
use Rattle.report.specs.Summary.{none_in}
use Rattle.poller_calls.proofs.take_control.Goals as goal

pub returns-then-open : goal.returns-then-open
unfolding in_time row_refusal rows_of
returns-then-open c =
    let a = c.args in record {
      polled_len = c.requires;
      answers = λ x.
          let y = with_line x a.slots.now a.polled.now in
          answers (settled_here (box_of y a.core) _ 12 [] (sym c.open.ensures ∙ c.if-open.true) refl (refused_is y a.core _ _ c.refuse.ensures));
    }

pub returns : goal.returns
unfolding in_time row_refusal rows_of done_of
returns c =
    let a = c.args in record {
      polled_len = c.listing-listed.ensures.polled_len;
      answers = λ x.
          let y = with_line x a.slots.now a.polled.now in
          answers (settled_next (box_of y a.core) _ 12 [] (sym c.open.ensures ∙ c.if-open.false)
          (settled_none (box_of y a.core) _ (rw (c.accept.ensures, c.no_notes-notes.ensures, none_in x.pids x.rates, c.listing-listed.ensures.result_after x.polling, c.take-shorter.ensures.ends_value, c.take-shorter.ensures.taken_value))));
    }
