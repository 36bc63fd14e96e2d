-- `numeral::read` meets its contract. The invariant: the answer is that of what is left, and no value is past max.
use Rattle.std.proofs.Common.{arith, sym, ◌∙◌, ◌≡◌, ◌+◌, ◌-◌, ◌*◌, get_or, eqb-true}
use Rattle.std.proofs.lemmas.Bool.{eqb-false}
use Rattle.ascii.specs.Chars.{between_low}
use Rattle.numeral.specs.Laws.{number_none, number_some, number_other, number_next, number_past, number_end}
use Rattle.numeral.proofs.read.Goals as goal

pub returns-then-is_empty : goal.returns-then-is_empty
returns-then-is_empty c = sym (number_none _ _ (eqb-true _ _ (sym c.if-is_empty.ensures)))

pub loop-b-init : goal.loop-b-init
loop-b-init c = (omega arith, number_some _ _ (eqb-false _ _ (sym c.if-is_empty.ensures)))

pub returns-then-not-is_between : goal.returns-then-not-is_between
returns-then-not-is_between c =
    sym (c.loop-b.invariant.1 ∙ number_other _ _ _ c.loop-b.b-index (omega arith) (sym c.if-not-is_between.ensures))

pub overflow_sub-b : goal.overflow_sub-b
overflow_sub-b c = between_low _ _ _ (sym c.if-not-is_between.ensures)

pub returns-in_err-checked_mul : goal.returns-in_err-checked_mul
returns-in_err-checked_mul c =
    let e = c.in_err-checked_mul.ensures in
    c.from_residual.ensures
    ∙ sym (c.loop-b.invariant.1 ∙ number_past _ _ _ c.loop-b.b-index (omega arith) (omega arith) (sym c.if-not-is_between.ensures))

pub returns-in_err-value : goal.returns-in_err-value
returns-in_err-value c =
    let e = c.in_err-value.ensures in
    c.from_residual-in_err-value.ensures
    ∙ sym (c.loop-b.invariant.1 ∙ number_past _ _ _ c.loop-b.b-index (omega arith) (omega arith) (sym c.if-not-is_between.ensures))

pub returns-then-max-value : goal.returns-then-max-value
returns-then-max-value c =
    sym (c.loop-b.invariant.1 ∙ number_past _ _ _ c.loop-b.b-index (omega arith) (omega arith) (sym c.if-not-is_between.ensures))

pub loop-b-preserved : goal.loop-b-preserved
loop-b-preserved c =
    let v : c.in_ok-value.value ≡ c.loop-b.value * 10 + (get_or c.args.s.now c.loop-b.b-index 0 - 48) = omega arith in
    (omega arith, rw v (c.loop-b.invariant.1 ∙ number_next _ _ _ c.loop-b.b-index (omega arith) (sym c.if-not-is_between.ensures)))

pub returns : goal.returns
returns c = sym (c.loop-b.invariant.1 ∙ number_end _ _ _ c.loop-b.b-index (omega arith) (omega arith))
