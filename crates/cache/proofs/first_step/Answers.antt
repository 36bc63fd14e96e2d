use mathlib.Core.Path.{sym, ◌∙◌, ap}
use borrow.Author.Tests.{not-true, not-false}
use Rattle.cache.specs.Rules.{range_step}
use Rattle.cache.specs.Cases.{step_off, step_range, step_pid, step_unclear}
use Rattle.cache.proofs.first_step.Goals as goal

pub returns-then-not-connected : goal.returns-then-not-connected
returns-then-not-connected c =
    let a = c.args in
    rw (not-true a.connected c.if-not-connected.true-raw) (sym (step_off a.ranges a.cmd.now))

pub returns-in-Range : goal.returns-in-Range
returns-in-Range c =
    let a = c.args in
    let e = sym c.classify-asked.ensures.value ∙ c.in-Range.is in
    rw (not-false a.connected c.if-not-connected.false-raw) (c.range_step.ensures ∙ ap (range_step c.in-Range.n) c.range-found.ensures ∙ sym (step_range a.ranges a.cmd.now c.in-Range.n e))

pub returns-in-Pid : goal.returns-in-Pid
returns-in-Pid c =
    let a = c.args in
    rw (not-false a.connected c.if-not-connected.false-raw) (sym (step_pid a.ranges a.cmd.now c.in-Pid.pid (sym c.classify-asked.ensures.value ∙ c.in-Pid.is)))

pub returns-in-Unknown : goal.returns-in-Unknown
returns-in-Unknown c =
    let a = c.args in
    rw (not-false a.connected c.if-not-connected.false-raw) (sym (step_unclear a.ranges a.cmd.now (sym c.classify-asked.ensures.value ∙ c.in-Unknown.is)))
