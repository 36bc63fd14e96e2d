-- `transcript::step` meets its contract.
use Rattle.transcript.specs.Lines.{step_text, step_line}
use Rattle.transcript.specs.Laws.{tail_length}
use Rattle.writing.specs.Added.{added_fits}
use borrow.Author.Tests.{eq-eqb, ne_eqb}
use mathlib.Core.Path.{◌∙◌}
use native.Mathlib.Omega.{arith}
use Rattle.transcript.proofs.step.Goals as goal

pub returns-then-b-eq10 : goal.returns-then-b-eq10
unfolding step_text step_line
returns-then-b-eq10 g c =
    let e = eq-eqb _ _ c.if-b-eq10.true in
    let h = c.requires in
    let n = tail_length c.class_of.result in
    record {
      value = rw (e, c.start.ensures);
      out_after = rw (e, ← c.class_of.ensures) (c.tail.ensures.text_is ∙ added_fits _ _ _ (omega arith));
    }

pub returns : goal.returns
unfolding step_text step_line
returns g c =
    let e = ne_eqb _ _ c.if-b-eq10.false in
    let h = c.requires in
    record {
      value = rw (e, c.keep.ensures);
      out_after = rw e (c.byte.ensures.text_is ∙ added_fits _ _ _ (omega arith));
    }
