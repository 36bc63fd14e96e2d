use borrow.Author.Rules.{rules}
use borrow.Author.Tests.{not-false, not-true}
use native.Mathlib.Omega.{arith}
use Prim.Native.Nat.{◌-◌}
use mathlib.Core.Bool.{Bool}
use mathlib.Core.Path.{◌≡◌, refl, ap, sym, ◌∙◌}
use lib.ListN.{length, length-map}
use Rattle.base.specs.Choice.{pick, false_true}
use Rattle.report.specs.Report.{no_report}
use Rattle.report.specs.Summary.{no_summary, none_in, filled_next, filled_end, pids_of, rates_of, pids_at, rates_at, handed}
use Rattle.report.proofs.summary.hand_on.Goals as goal

-- The clauses, each under its name.
named_pids_len_2_rates_len_2_result_after_ran_value_pids_unchanged_rates_unchanged : {A B C D E F : Type 0} → A × (B × (C × (D × (E × F)))) → record { pids_len_2 : A; rates_len_2 : B; result_after : C; ran_value : D; pids_unchanged : E; rates_unchanged : F }
named_pids_len_2_rates_len_2_result_after_ran_value_pids_unchanged_rates_unchanged p = record { pids_len_2 = p.0; rates_len_2 = p.1.0; result_after = p.1.1.0; ran_value = p.1.1.1.0; pids_unchanged = p.1.1.1.1.0; rates_unchanged = p.1.1.1.1.1 }

pub returns-then-not-report : goal.returns-then-not-report
unfolding no_summary
returns-then-not-report c =
    named_pids_len_2_rates_len_2_result_after_ran_value_pids_unchanged_rates_unchanged (let e = not-true c.args.report.ran c.if-not-report.true in
    rw (c.none.ensures, e) (c.requires.pids_len, (c.requires.rates_len, (none_in c.args.pids.now c.args.rates.now, (refl, ((λ z. refl), (λ z. refl)))))))

pub loop-i-init : goal.loop-i-init
loop-i-init c =
    let n : length c.args.report.rates.list ≡ 256 = search rules in
    (n, (simp length-map (c.requires.pids_len ∙ sym n), refl), (simp length-map (c.requires.rates_len ∙ sym n), refl))

pub loop-i-preserved : goal.loop-i-preserved
loop-i-preserved c =
    let xs = c.args.report.rates.list in
    let i = c.loop-i.i in
    let inv = c.loop-i.invariant in
    let n = inv.0 in
    (n, filled_next (pids_of xs) c.loop-i.pids i _ _ (rw length-map (omega arith)) (sym (pids_at _ xs i)) inv.1, filled_next (rates_of xs) c.loop-i.rates i _ _ (rw length-map (omega arith)) (sym (rates_at _ xs i)) inv.2)

pub returns : goal.returns
returns c =
    let r = c.args.report in
    let e = not-false r.ran c.if-not-report.false in
    let n = c.loop-i.invariant.0 in
    let f = filled_end (pids_of r.rates.list) c.loop-i.pids c.loop-i.i (rw length-map (omega arith)) c.loop-i.invariant.1 in
    let g = filled_end (rates_of r.rates.list) c.loop-i.rates c.loop-i.i (rw length-map (omega arith)) c.loop-i.invariant.2 in
    let h = handed r c.loop-i.pids c.loop-i.rates e f g ∙ ap (λ (b : Bool). pick b r no_report) (sym e) in
    record {
      pids_len_2 = rw f (simp length-map n);
      rates_len_2 = rw g (simp length-map n);
      result_after = h;
      ran_value = sym e;
      pids_unchanged = (λ z. false_true (sym z ∙ e));
      rates_unchanged = (λ z. false_true (sym z ∙ e));
    }
