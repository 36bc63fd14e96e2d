use mathlib.Core.Path.{sym, ◌∙◌}
use borrow.Author.Tests.{lt-ltb, le-ltb, not-true, not-false}
use Rattle.base.specs.Both.{never}
use Rattle.reply.specs.Rules.{max_pids}
use Rattle.delivery.specs.Cases.{unfit_many, unfit_order, unfit_over}
use Rattle.delivery.proofs.refuses.Goals as goal
use Rattle.delivery.proofs.refuses.Goals.{then-from-gt-MAX_PIDS, else-from-gt-MAX_PIDS}

pub returns-then-not-rising : goal.returns-then-not-rising
returns-then-not-rising c =
    let r = c.args.response in
    let t = c.if-not-rising.true in
    elim c.if-from-gt-MAX_PIDS.branch [
      | then-from-gt-MAX_PIDS w ↦ t ∙ sym (unfit_many r (lt-ltb max_pids _ (rw c.from.ensures at w.if-from-gt-MAX_PIDS.true)))
      | else-from-gt-MAX_PIDS w ↦ t ∙ sym (unfit_order r (le-ltb max_pids _ (rw c.from.ensures at w.if-from-gt-MAX_PIDS.false)) (sym w.rising.ensures ∙ not-true w.rising.result (sym w.value-is ∙ t)))
    ]

pub returns-else-not-rising : goal.returns-else-not-rising
returns-else-not-rising c =
    let r = c.args.response in
    let t = c.if-not-rising.false in
    elim c.if-from-gt-MAX_PIDS.branch [
      | then-from-gt-MAX_PIDS w ↦ never _ (w.value-is ∙ lt-ltb _ _ w.if-from-gt-MAX_PIDS.true) t
      | else-from-gt-MAX_PIDS w ↦ c.any_over.ensures ∙ sym (unfit_over r (le-ltb max_pids _ (rw c.from.ensures at w.if-from-gt-MAX_PIDS.false)) (sym w.rising.ensures ∙ not-false w.rising.result (sym w.value-is ∙ t)))
    ]
