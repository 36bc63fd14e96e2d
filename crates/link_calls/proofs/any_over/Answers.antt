use Rattle.std.proofs.Common.{rules, arith, ◌≡◌, refl, sym, ◌∙◌, length}
use Rattle.base.specs.Each.{some_here, some_next, some_end}
use Rattle.obd2.specs.Refusals.{over_range}
use Rattle.reply.specs.Rules.{no_range}
use Rattle.link_calls.proofs.any_over.Goals as goal
use Rattle.link_calls.proofs.any_over.Goals.{Start}

long : (c : Start) → length c.args.ranges ≡ 8
long c = search rules

pub loop-range-init : goal.loop-range-init
loop-range-init c = refl

pub returns-then-over_range : goal.returns-then-over_range
returns-then-over_range c =
    let l = long (goal.at.returns-then-over_range c).Start in
    sym (c.loop-range.invariant ∙ some_here over_range c.args.ranges c.loop-range.range-index no_range (omega arith) (sym c.over_range.ensures ∙ c.if-over_range.true))

pub loop-range-preserved : goal.loop-range-preserved
loop-range-preserved c =
    let l = long (goal.at.loop-range-preserved c).Start in
    c.loop-range.invariant ∙ some_next over_range c.args.ranges c.loop-range.range-index no_range (omega arith) (sym c.over_range.ensures ∙ c.if-over_range.false)

pub returns : goal.returns
returns c =
    let l = long (goal.at.returns c).Start in
    sym (c.loop-range.invariant ∙ some_end over_range c.args.ranges c.loop-range.range-index no_range (omega arith))
