use mathlib.Core.Path.{sym, ◌∙◌}
use borrow.Author.Tests.{eq-eqb, ne_eqb}
use Rattle.rounds.specs.Cases.{multi_end, multi_some}
use Rattle.rounds.specs.Core.{take_course}
use Rattle.poller.specs.Core.{held, poller_of}
use Rattle.rounds.proofs.next.multi.Goals as goal

pub returns-then-chunk-eq0 : goal.returns-then-chunk-eq0
returns-then-chunk-eq0 c =
    λ ranges.
    let a = c.args in
    let x = held a.polled.now a.known.now a.order.now ranges in
    let e = rw c.plan-plan.ensures at c.take-taken.ensures in
    c.end.ensures x ∙ sym (multi_end (poller_of x a.p) (eq-eqb _ _ (rw e at c.if-chunk-eq0.true)))

pub returns : goal.returns
returns c =
    λ ranges.
    let a = c.args in
    let x = held a.polled.now a.known.now a.order.now ranges in
    let e = rw c.plan-plan.ensures at c.take-taken.ensures in
    let some = multi_some (poller_of x a.p) (ne_eqb _ _ (rw e at c.if-chunk-eq0.false)) in
    c.issue.ensures x ∙ rw (c.course_of-p.ensures, e, take_course a.polled.now a.known.now a.order.now a.p.plan, some)
