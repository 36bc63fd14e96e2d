use native.Mathlib.Omega.{arith}
use mathlib.Core.Path.{ap, sym, ◌∙◌}
use Rattle.delivery.specs.Cases.{listed_le, response_refused}
use Rattle.delivery.specs.Turns.{answer_whole}
use Rattle.delivery.specs.Evaluation.{evaluated_of, evaluated_start, evaluated_next}
use Rattle.delivery.proofs.evaluation.evaluate.Goals as goal

pub returns-then-refuses : goal.returns-then-refuses
returns-then-refuses c =
    λ d e.
    let a = c.args in
    rw (response_refused d a.profiles a.response (sym c.refuses.ensures ∙ c.if-refuses.true), e)

pub loop-i-init : goal.loop-i-init
loop-i-init c = (omega arith, rw c.listed-n.ensures (listed_le _), λ d e. evaluated_start d _ _ _ e)

pub loop-i-preserved : goal.loop-i-preserved
loop-i-preserved c =
    let a = c.args in (
      omega arith,
      omega arith,
      λ d e. c.turn-evaluated.ensures ∙ evaluated_next d a.profiles a.response c.loop-i.i c.loop-i.evaluated (c.loop-i.invariant.2 d e),
    )

pub returns : goal.returns
returns c =
    λ d e.
    let a = c.args in
    let n = c.listed-n.ensures in
    c.loop-i.invariant.2 d e
    ∙ ap evaluated_of (answer_whole d a.profiles a.response c.loop-i.i (sym c.refuses.ensures ∙ c.if-refuses.false) (omega arith) (omega arith))
