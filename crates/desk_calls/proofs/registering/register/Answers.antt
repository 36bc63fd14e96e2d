use Rattle.std.specs.Prelude.{◌≡◌, ◌≤◌}
use Rattle.desk.specs.Rules.{register_refusal}
use Rattle.desk.specs.declared.Desk.{Desk}
use Rattle.obd2.specs.Listed.{first_listed}
use mathlib.Core.Path.{refl, ap, sym, ◌∙◌}
use Rattle.control_line.specs.Rows.{line_of}
use Rattle.manager.specs.Rows.{manager_of}
use Rattle.manager.specs.declared.Event.TheVariants.{Nothing}
use Rattle.manager_calls.specs.Send.{back_manager, back_line, back_report, no_ran}
use Rattle.manager_calls.specs.Settle.{sent_refused, sent_done, handed_back, own_refused, own_settled}
use Rattle.desk_calls.specs.Desk.{register_told, registered}
use Rattle.obd2.specs.Call.{Register}
use Rattle.obd2.specs.Core.{lent, box_of, refused_by}
use Rattle.obd2.specs.Done.{manager_by}
use Rattle.passes.specs.declared.Terms.{Terms}
use Rattle.refusal.specs.declared.Refusal.TheVariants.{LineFull}
use Rattle.report.specs.declared.summary.Summary.{Summary}
use borrow.Author.Rules.{rules}
use Rattle.desk_calls.proofs.registering.register.Goals as goal

-- The clauses, each under its name.
named_marks_len_2_table_len_2_pids_len_2_rates_len_2_pids_unchanged_rates_unchanged_by_index : {A B C D E F G : Type 0} → A × (B × (C × (D × (E × (F × G))))) → record { marks_len_2 : A; table_len_2 : B; pids_len_2 : C; rates_len_2 : D; pids_unchanged : E; rates_unchanged : F; by_index : G }
named_marks_len_2_table_len_2_pids_len_2_rates_len_2_pids_unchanged_rates_unchanged_by_index p = record { marks_len_2 = p.0; table_len_2 = p.1.0; pids_len_2 = p.1.1.0; rates_len_2 = p.1.1.1.0; pids_unchanged = p.1.1.1.1.0; rates_unchanged = p.1.1.1.1.1.0; by_index = p.1.1.1.1.1.1 }

-- A register's refusal is of the table.
listed : (d : Desk) → register_refusal d ≤ 16
unfolding register_refusal
listed d = first_listed _ refl

pub returns-then-number-ne0 : goal.returns-then-number-ne0
returns-then-number-ne0 c =
    named_marks_len_2_table_len_2_pids_len_2_rates_len_2_pids_unchanged_rates_unchanged_by_index (let a = c.args in (
      search rules,
      (
        search rules,
        (
          search rules,
          (
            search rules,
            (
              λ z. refl,
              (
                λ z. refl,
                λ replies polling.
                    let x = lent replies a.marks.now a.table.now a.slots.now polling a.pids.now a.rates.now in
                    let s = box_of x a.core in
                    own_refused s a.time Register c.refusal-number.result (register_told s _ (c.refusal-number.ensures replies a.marks.now)) c.if-number-ne0.true (refused_by x a.core c.refuse.result _ _ (c.numbered.ensures c.if-number-ne0.true (rw (c.refusal-number.ensures replies a.marks.now) (listed s.desk))) c.refuse.ensures),
              ),
            ),
          ),
        ),
      ),
    ))

pub returns-then-sent : goal.returns-then-sent
unfolding manager_by
returns-then-sent c =
    named_marks_len_2_table_len_2_pids_len_2_rates_len_2_pids_unchanged_rates_unchanged_by_index (let a = c.args in
    let k = a.core in
    let n = c.refusal-number in
    let e = c.send-sent.ensures in
    let t : Terms = record { profiles = k.profiles; settings = k.settings; now = a.time } in
    let q = e.result_after in
    let h = c.if-sent.true in
    let z = no_ran _ _ _ (back_report (manager_of a.table.now k.manager) (line_of a.slots.now k.line) t Nothing _ q h) in (
      search rules,
      (
        e.table_len_2,
        (
          e.pids_len_2,
          (
            e.rates_len_2,
            (
              λ y. e.pids_unchanged z,
              (
                λ y. e.rates_unchanged z,
                λ replies polling.
                    let x = lent replies a.marks.now a.table.now a.slots.now polling a.pids.now a.rates.now in
                    let s = box_of x k in
                    own_settled s a.time Register n.result (register_told s _ (n.ensures replies a.marks.now)) c.if-number-ne0.false
                    (sent_refused s a.time (manager_by s Register) _ q h
                    (handed_back x (lent replies a.marks.now c.send-sent.new.table c.send-sent.new.slots polling c.send-sent.new.pids c.send-sent.new.rates) k c.send-sent.result.manager c.send-sent.result.line LineFull c.refuse-then-sent.result refl refl (back_manager _ _ t Nothing _ q h) (back_line _ _ t Nothing _ q h) c.refuse-then-sent.ensures)),
              ),
            ),
          ),
        ),
      ),
    ))

pub returns : goal.returns
unfolding manager_by
returns c =
    named_marks_len_2_table_len_2_pids_len_2_rates_len_2_pids_unchanged_rates_unchanged_by_index (let a = c.args in
    let k = a.core in
    let n = c.refusal-number in
    let e = c.send-sent.ensures in
    let f : c.accept.result.notes.summary ≡ c.send-sent.result.summary = rw (c.accept.ensures, c.reporting-notes.ensures) in (
      c.register-entered.ensures.marks_len,
      (
        e.table_len_2,
        (
          e.pids_len_2,
          (
            e.rates_len_2,
            (
              λ y. e.pids_unchanged (ap (λ (u : Summary). u.ran) (sym f) ∙ y),
              (
                λ y. e.rates_unchanged (ap (λ (u : Summary). u.ran) (sym f) ∙ y),
                λ replies polling.
                    let x = lent replies a.marks.now a.table.now a.slots.now polling a.pids.now a.rates.now in
                    let s = box_of x k in
                    let z = sym (n.ensures replies a.marks.now) ∙ c.if-number-ne0.false in
                    own_settled s a.time Register n.result (register_told s _ (n.ensures replies a.marks.now)) c.if-number-ne0.false
                    (sent_done s a.time (manager_by s Register) _ e.result_after c.if-sent.false
                    (registered x (lent replies c.register-entered.new.marks c.send-sent.new.table c.send-sent.new.slots polling c.send-sent.new.pids c.send-sent.new.rates) k a.time c.send-sent.result.manager c.send-sent.result.line c.send-sent.result.summary c.accept.result c.register-entered.result z (c.register-entered.ensures.by_index replies) (rw (c.accept.ensures, c.reporting-notes.ensures)))),
              ),
            ),
          ),
        ),
      ),
    ))
