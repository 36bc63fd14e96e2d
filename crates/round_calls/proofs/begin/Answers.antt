use Rattle.std.specs.Prelude.{[]}
use mathlib.Core.Path.{refl, sym, ◌∙◌}
use Rattle.obd2.specs.Answers.{answers, settled_here, settled_next, settled_none}
use Rattle.obd2.specs.Core.{with_poller, box_of, refused_is}
use Rattle.obd2.specs.Done.{round_by, done_of}
use Rattle.obd2.specs.History.{in_time}
use Rattle.obd2.specs.Refusals.{round_rows, rows_of, row_refusal}
use Rattle.poller.specs.Core.{held}
use Rattle.report.specs.Summary.{none_in}
use Rattle.round_calls.proofs.begin.Goals as goal

-- The clauses, each under its name.
named_polled_after_known_after_fact : {A B C : Type 0} → A × (B × C) → record { polled_after : A; known_after : B; fact : C }
named_polled_after_known_after_fact p = record { polled_after = p.0; known_after = p.1.0; fact = p.1.1 }

pub returns-then-open : goal.returns-then-open
unfolding in_time row_refusal rows_of round_rows
returns-then-open c =
    named_polled_after_known_after_fact (let a = c.args in (
      c.requires.polled_len,
      (
        c.requires.known_len,
        λ x ranges.
            let y = with_poller x (held a.polled.now a.known.now a.order.now ranges) in
            answers (settled_here (box_of y a.core) _ 12 [] (sym c.open.ensures ∙ c.if-open.true) refl (refused_is y a.core _ _ c.refuse.ensures)),
      ),
    ))

pub returns : goal.returns
unfolding in_time row_refusal rows_of round_rows done_of round_by
returns c =
    named_polled_after_known_after_fact (let a = c.args in
    let e = c.begin-opened.ensures in (
      e.polled_len_2,
      (
        e.known_len_2,
        λ x ranges.
            let y = with_poller x (held a.polled.now a.known.now a.order.now ranges) in
            answers (settled_next (box_of y a.core) _ 12 [] (sym c.open.ensures ∙ c.if-open.false)
            (settled_none (box_of y a.core) _ (rw (c.accept.ensures, c.no_notes-notes.ensures, none_in x.pids x.rates, e.by_index ranges)))),
      ),
    ))
