use Rattle.std.specs.Prelude.{[]}
use mathlib.Core.Path.{refl, sym, ◌∙◌}
use Rattle.obd2.specs.Answers.{answers, settled_here, settled_next, settled_none}
use Rattle.obd2.specs.Core.{with_poller, box_of, refused_is}
use Rattle.obd2.specs.Done.{round_by, done_of}
use Rattle.obd2.specs.History.{in_time}
use Rattle.obd2.specs.Refusals.{round_rows, rows_of, row_refusal}
use Rattle.poller.specs.Core.{held}
use Rattle.report.specs.Summary.{none_in}
use Rattle.round_calls.proofs.next.Goals as goal

pub returns-then-out_of_turn : goal.returns-then-out_of_turn
unfolding in_time row_refusal rows_of round_rows
returns-then-out_of_turn c =
    λ x ranges.
    let a = c.args in
    let y = with_poller x (held a.polled.now a.known.now a.order.now ranges) in
    answers (settled_here (box_of y a.core) _ 13 [] (sym c.out_of_turn.ensures ∙ c.if-out_of_turn.true) refl (refused_is y a.core _ _ c.refuse.ensures))

pub returns : goal.returns
unfolding in_time row_refusal rows_of round_rows done_of round_by
returns c =
    λ x ranges.
    let a = c.args in
    let y = with_poller x (held a.polled.now a.known.now a.order.now ranges) in
    answers (settled_next (box_of y a.core) _ 13 [] (sym c.out_of_turn.ensures ∙ c.if-out_of_turn.false)
    (settled_none (box_of y a.core) _ (rw (c.accept.ensures, c.querying-notes.ensures, none_in x.pids x.rates, ← c.next-stepped.ensures.by_index ranges))))
