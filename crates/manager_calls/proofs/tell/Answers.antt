use Rattle.std.specs.Prelude.{◌≡◌}
use mathlib.Core.Path.{refl, ap, sym, ◌∙◌}
use Rattle.control_line.specs.Rows.{line_of}
use Rattle.manager.specs.Rows.{manager_of}
use Rattle.manager_calls.specs.Send.{back_manager, back_line, back_report, no_ran}
use Rattle.manager_calls.specs.Settle.{sent_refused, sent_done, handed_back}
use Rattle.obd2.specs.Core.{with_manager, box_of}
use Rattle.obd2.specs.Done.{without_values}
use Rattle.obd2.specs.declared.Said.TheVariants.{Done}
use Rattle.passes.specs.declared.Terms.{Terms}
use Rattle.refusal.specs.declared.Refusal.TheVariants.{LineFull}
use Rattle.report.specs.declared.summary.Summary.{Summary}
use Rattle.manager_calls.proofs.tell.Goals as goal

-- The clauses, each under its name.
named_table_len_2_pids_len_2_rates_len_2_pids_unchanged_rates_unchanged_result_after : {A B C D E F : Type 0} → A × (B × (C × (D × (E × F)))) → record { table_len_2 : A; pids_len_2 : B; rates_len_2 : C; pids_unchanged : D; rates_unchanged : E; result_after : F }
named_table_len_2_pids_len_2_rates_len_2_pids_unchanged_rates_unchanged_result_after p = record { table_len_2 = p.0; pids_len_2 = p.1.0; rates_len_2 = p.1.1.0; pids_unchanged = p.1.1.1.0; rates_unchanged = p.1.1.1.1.0; result_after = p.1.1.1.1.1 }

pub returns-then-sent : goal.returns-then-sent
returns-then-sent c =
    named_table_len_2_pids_len_2_rates_len_2_pids_unchanged_rates_unchanged_result_after (let a = c.args in
    let k = a.core in
    let e = c.send-sent.ensures in
    let t : Terms = record { profiles = a.profiles; settings = k.settings; now = a.time } in
    let q = e.result_after in
    let h = c.if-sent.true in
    let z = no_ran _ _ _ (back_report (manager_of a.table.now k.manager) (line_of a.slots.now k.line) t a.event _ q h) in (
      e.table_len_2,
      (
        e.pids_len_2,
        (
          e.rates_len_2,
          (
            λ y. e.pids_unchanged z,
            (
              λ y. e.rates_unchanged z,
              λ x.
                  let s = with_manager x a.table.now a.slots.now a.pids.now a.rates.now in
                  let l = with_manager x c.send-sent.new.table c.send-sent.new.slots c.send-sent.new.pids c.send-sent.new.rates in
                  sent_refused (box_of s k) a.time (without_values (box_of x k).desk a.profiles a.event Done) _ q h
                  (handed_back s l k c.send-sent.result.manager c.send-sent.result.line LineFull c.refuse.result refl refl (back_manager _ _ t a.event _ q h) (back_line _ _ t a.event _ q h) c.refuse.ensures),
            ),
          ),
        ),
      ),
    ))

pub returns : goal.returns
returns c =
    named_table_len_2_pids_len_2_rates_len_2_pids_unchanged_rates_unchanged_result_after (let a = c.args in
    let k = a.core in
    let e = c.send-sent.ensures in
    let f : c.accept.result.notes.summary ≡ c.send-sent.result.summary = rw (c.accept.ensures, c.reporting-notes.ensures) in (
      e.table_len_2,
      (
        e.pids_len_2,
        (
          e.rates_len_2,
          (
            λ y. e.pids_unchanged (ap (λ (u : Summary). u.ran) (sym f) ∙ y),
            (
              λ y. e.rates_unchanged (ap (λ (u : Summary). u.ran) (sym f) ∙ y),
              λ x.
                  let s = with_manager x a.table.now a.slots.now a.pids.now a.rates.now in
                  sent_done (box_of s k) a.time (without_values (box_of x k).desk a.profiles a.event Done) _ e.result_after c.if-sent.false
                  (rw (c.accept.ensures, c.reporting-notes.ensures)),
            ),
          ),
        ),
      ),
    ))
