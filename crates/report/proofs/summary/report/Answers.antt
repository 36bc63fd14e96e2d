use borrow.Author.Tests.{not-false, not-true}
use native.Mathlib.Omega.{arith}
use Prim.Native.Nat.{◌-◌}
use mathlib.Core.Path.{refl, ap, sym, ◌∙◌}
use lib.ListN.{length}
use Rattle.report.specs.Summary.{not_run, filled_next, filled_end, rated_in, rated_at, rated_length, blank_length, report_is}
use Rattle.report.specs.declared.Rates.{Rates}
use Rattle.report.proofs.summary.report.Goals as goal

pub returns-then-not-summary : goal.returns-then-not-summary
returns-then-not-summary c =
    let a = c.args in
    c.no_report.ensures ∙ sym (not_run a.pids.now a.rates.now a.summary (not-true a.summary.ran c.if-not-summary.true))

pub loop-i-init : goal.loop-i-init
loop-i-init c =
    let n = rated_length c.args.pids.now c.args.rates.now (c.requires.pids_len ∙ sym c.requires.rates_len) in
    (ap (λ (r : Rates). length r.list) c.no_rates-listed.ensures ∙ blank_length ∙ sym (n ∙ c.requires.pids_len), refl)

pub loop-i-preserved : goal.loop-i-preserved
loop-i-preserved c =
    let ps = c.args.pids.now in
    let rs = c.args.rates.now in
    let i = c.loop-i.i in
    let n = c.requires.pids_len in
    let m = c.requires.rates_len in
    let k = rated_length ps rs (n ∙ sym m) in
    (filled_next (rated_in ps rs) c.loop-i.listed.list i _ _ (omega arith) (rated_at _ ps rs i (omega arith) (omega arith)) c.loop-i.invariant)

pub returns : goal.returns
returns c =
    let ps = c.args.pids.now in
    let rs = c.args.rates.now in
    let n = c.requires.pids_len in
    let k = rated_length ps rs (n ∙ sym c.requires.rates_len) in
    let e = not-false c.args.summary.ran c.if-not-summary.false in
    report_is ps rs c.args.summary c.loop-i.listed.list e (filled_end (rated_in ps rs) c.loop-i.listed.list c.loop-i.i (omega arith) c.loop-i.invariant)
