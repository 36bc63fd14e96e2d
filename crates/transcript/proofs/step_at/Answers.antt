-- `transcript::step_at` meets its contract.
use Rattle.transcript.specs.Lines.{step_text, step_line, stepped_of, tail_text}
use Rattle.base.specs.Write.{over_one}
use borrow.Author.Tests.{eq-eqb, ne_eqb}
use mathlib.Core.Path.{sym, ap, ◌∙◌}
use native.Mathlib.Omega.{arith}
use Rattle.transcript.proofs.step_at.Goals as goal

pub returns-then-b-eq10 : goal.returns-then-b-eq10
unfolding stepped_of step_text step_line
returns-then-b-eq10 c =
    let e = eq-eqb _ _ c.if-b-eq10.true in
    let w = c.ending.ensures.result_value ∙ ap tail_text c.class_of.ensures in
    record {
      value = rw (e, c.start.ensures, c.put-next.ensures.value, w);
      out_after = rw (e, c.put-next.ensures.out_after, w);
    }

pub returns : goal.returns
unfolding stepped_of step_text step_line
returns c =
    let e = ne_eqb _ _ c.if-b-eq10.false in
    record {
      value = rw (e, c.keep.ensures);
      out_after = rw e (sym (over_one c.args.out.now c.args.at c.args.b (omega arith)));
    }
