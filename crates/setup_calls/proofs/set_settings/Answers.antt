use Rattle.std.specs.Prelude.{[]}
use mathlib.Core.Path.{refl, sym, ◌∙◌}
use Rattle.obd2.specs.Answers.{answers, settled_here, settled_next, settled_none}
use Rattle.obd2.specs.Core.{box_of, refused_is}
use Rattle.obd2.specs.Done.{done_of}
use Rattle.obd2.specs.History.{in_time}
use Rattle.obd2.specs.Refusals.{rows_of, row_refusal}
use Rattle.report.specs.Summary.{none_in}
use Rattle.setup_calls.proofs.set_settings.Goals as goal

pub returns-then-unknown_mode : goal.returns-then-unknown_mode
unfolding in_time row_refusal rows_of
returns-then-unknown_mode c =
    λ x.
    let a = c.args in
    answers (settled_here (box_of x a.core) _ 2 [] (sym c.unknown_mode.ensures ∙ c.if-unknown_mode.true) refl (refused_is x a.core _ _ c.refuse.ensures))

pub returns : goal.returns
unfolding in_time row_refusal rows_of done_of
returns c =
    λ x.
    let a = c.args in
    answers (settled_next (box_of x a.core) _ 2 [] (sym c.unknown_mode.ensures ∙ c.if-unknown_mode.false)
    (settled_none (box_of x a.core) _ (rw (c.accept.ensures, c.no_notes-notes.ensures, none_in x.pids x.rates))))
