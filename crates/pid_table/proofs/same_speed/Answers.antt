use borrow.Author.Tests.{not-true, not-false}
use mathlib.Core.Path.{◌∙◌}
use Rattle.pid_table.specs.Cases.{same_tracked, same_gone, same_new}
use Rattle.pid_table.proofs.same_speed.Goals as goal
use Rattle.pid_table.proofs.same_speed.Goals.{then-not-before-via-then-not-before, then-not-before-via-else-not-before+then-not-after}

pub returns-then-not-before : goal.returns-then-not-before
returns-then-not-before c =
    let a = c.args.before in
    let b = c.args.after in
    elim c.then-not-before.branch [
      | then-not-before-via-then-not-before w ↦ same_new a b (not-true a.tracked w.if-not-before.true)
      | then-not-before-via-else-not-before+then-not-after w ↦ same_gone a b (not-true b.tracked w.if-not-after.true)
    ]

pub returns : goal.returns
returns c =
    let a = c.args.before in
    let b = c.args.after in
    rw (c.is_fast.ensures, c.is_fast-2.ensures) (same_tracked a b (not-false a.tracked c.if-not-before.false) (not-false b.tracked c.if-not-after.false))
