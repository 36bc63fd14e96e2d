use borrow.Author.Tests.{eq-eqb, ne_eqb}
use Rattle.std.specs.Prelude.{Some}
use mathlib.Core.Path.{sym, ap, ◌∙◌}
use Rattle.control_line.specs.Rows.{line_of, take_said}
use Rattle.control_line.specs.Ring.{take_of}
use Rattle.control_line.proofs.places.take.Goals as goal

pub returns-then-ends-eq0 : goal.returns-then-ends-eq0
unfolding line_of take_of
returns-then-ends-eq0 c =
    record {
      ends_value = rw (eq-eqb _ _ c.if-ends-eq0.true);
      taken_value = rw (eq-eqb _ _ c.if-ends-eq0.true);
    }

pub returns : goal.returns
unfolding line_of take_of
returns c =
    record {
      ends_value = rw (ne_eqb _ _ c.if-ends-eq0.false);
      taken_value = ap Some c.message_in-message.ensures ∙ sym (take_said c.args.rows.now c.args.ends (ne_eqb _ _ c.if-ends-eq0.false));
    }
