use borrow.Author.Rules.{rules}
use borrow.Author.Tests.{le-ltb}
use native.Mathlib.Omega.{arith}
use Prim.Native.Nat.{◌-◌}
use mathlib.Core.Path.{◌≡◌, refl, sym, ◌∙◌}
use Rattle.report.specs.Rates.{insert_of, carry_start, carry_swap, carry_pass, carry_end}
use Rattle.report.proofs.insert.Goals as goal
use Rattle.report.proofs.insert.Goals.{else-ahead, then-ahead}

pub returns-then-rates-ge256 : goal.returns-then-rates-ge256
unfolding insert_of
returns-then-rates-ge256 c = rw (le-ltb _ _ c.if-rates-ge256.true)

pub loop-i-init : goal.loop-i-init
loop-i-init c =
    (refl, carry_start c.args.rates.list c.args.rated c.args.rates.count (search rules))

pub loop-i-preserved : goal.loop-i-preserved
loop-i-preserved c =
    let s = c.args in
    let inv = c.loop-i.invariant in
    let e = c.ahead.ensures in
    let l = c.loop-i.rates.list in
    elim c.if-ahead.branch [ then-ahead w ↦ (rw w.rates-is inv.0, rw (w.rates-is, w.carried-is) (carry_swap s.rates.list s.rated s.rates.count l c.loop-i.carried c.loop-i.i _ (omega arith) (omega arith) (sym e ∙ w.if-ahead.true) inv.1)) | else-ahead w ↦ (rw w.rates-is inv.0, rw (w.rates-is, w.carried-is) (carry_pass s.rates.list s.rated s.rates.count l c.loop-i.carried c.loop-i.i _ (omega arith) (omega arith) (sym e ∙ w.if-ahead.false) inv.1)) ]

pub returns : goal.returns
returns c =
    let s = c.args in
    let inv = c.loop-i.invariant in
    let l = c.loop-i.rates.list in
    let e : c.loop-i.i ≡ s.rates.count = omega arith in
    rw inv.0 (rw e at (carry_end s.rates s.rated l c.loop-i.carried c.loop-i.i (omega arith) (sym e) inv.1))
