use Rattle.std.specs.Prelude.{◌≡◌, ◌≤◌}
use mathlib.Core.Path.{refl, ap, sym, ◌∙◌}
use Rattle.control_line.specs.Rows.{line_of}
use Rattle.manager.specs.Rows.{manager_of}
use Rattle.manager.specs.declared.Event.TheVariants.{Nothing}
use Rattle.manager_calls.specs.Send.{back_manager, back_line, back_report, no_ran}
use Rattle.manager_calls.specs.Settle.{sent_refused, sent_done, handed_back, own_refused, own_settled}
use Rattle.delivery.specs.Laws.{response_refusal_law}
use Rattle.delivery.specs.Rules.{response_refusal}
use Rattle.obd2.specs.Listed.{first_listed}
use Rattle.delivery.specs.Storing.{evaluated_stored}
use Rattle.delivery.specs.declared.evaluation.Evaluated.{Evaluated}
use Rattle.desk_calls.specs.Desk.{response_told, responded}
use Rattle.obd2.specs.Call.{Respond}
use Rattle.obd2.specs.Core.{lent, box_of, refused_by}
use Rattle.obd2.specs.Done.{manager_by}
use Rattle.passes.specs.declared.Terms.{Terms}
use Rattle.refusal.specs.declared.Refusal.TheVariants.{LineFull}
use Rattle.reply.specs.declared.Response.{Response}
use Rattle.report.specs.declared.summary.Summary.{Summary}
use Rattle.desk_calls.proofs.responding.response.Goals as goal

-- The clauses, each under its name.
named_marks_len_2_table_len_2_pids_len_2_rates_len_2_pids_unchanged_rates_unchanged_answers : {A B C D E F G : Type 0} → A × (B × (C × (D × (E × (F × G))))) → record { marks_len_2 : A; table_len_2 : B; pids_len_2 : C; rates_len_2 : D; pids_unchanged : E; rates_unchanged : F; answers : G }
named_marks_len_2_table_len_2_pids_len_2_rates_len_2_pids_unchanged_rates_unchanged_answers p = record { marks_len_2 = p.0; table_len_2 = p.1.0; pids_len_2 = p.1.1.0; rates_len_2 = p.1.1.1.0; pids_unchanged = p.1.1.1.1.0; rates_unchanged = p.1.1.1.1.1.0; answers = p.1.1.1.1.1.1 }

-- A response's refusal is of the table.
listed : (r : Response) → response_refusal r ≤ 16
unfolding response_refusal
listed r = first_listed _ refl

pub returns-then-evaluated-ne0 : goal.returns-then-evaluated-ne0
returns-then-evaluated-ne0 c =
    named_marks_len_2_table_len_2_pids_len_2_rates_len_2_pids_unchanged_rates_unchanged_answers (let a = c.args in (
      c.requires.marks_len,
      (
        c.requires.table_len,
        (
          c.requires.pids_len,
          (
            c.requires.rates_len,
            (
              λ z. refl,
              (
                λ z. refl,
                λ polling.
                    let x = lent a.replies.now a.marks.now a.table.now a.slots.now polling a.pids.now a.rates.now in
                    let s = box_of x a.core in
                    let n = ap (λ (y : Evaluated). y.refusal) (c.evaluate-evaluated.ensures s.desk refl) in
                    own_refused s a.time (Respond a.response) c.evaluate-evaluated.result.refusal (response_told s a.response _ n) c.if-evaluated-ne0.true (refused_by x a.core c.refuse.result _ _ (c.numbered.ensures c.if-evaluated-ne0.true (rw (n ∙ response_refusal_law s.desk a.core.profiles a.response) (listed a.response))) c.refuse.ensures),
              ),
            ),
          ),
        ),
      ),
    ))

pub returns-then-sent : goal.returns-then-sent
unfolding manager_by
returns-then-sent c =
    named_marks_len_2_table_len_2_pids_len_2_rates_len_2_pids_unchanged_rates_unchanged_answers (let a = c.args in
    let k = a.core in
    let e = c.send-sent.ensures in
    let t : Terms = record { profiles = c.evaluate-evaluated.result.profiles; settings = k.settings; now = a.time } in
    let q = e.result_after in
    let h = c.if-sent.true in
    let z = no_ran _ _ _ (back_report (manager_of a.table.now k.manager) (line_of a.slots.now k.line) t Nothing _ q h) in (
      c.requires.marks_len,
      (
        e.table_len_2,
        (
          e.pids_len_2,
          (
            e.rates_len_2,
            (
              λ y. e.pids_unchanged z,
              (
                λ y. e.rates_unchanged z,
                λ polling.
                    let x = lent a.replies.now a.marks.now a.table.now a.slots.now polling a.pids.now a.rates.now in
                    let s = box_of x k in
                    let m = c.evaluate-evaluated.ensures s.desk refl in
                    own_settled s a.time (Respond a.response) c.evaluate-evaluated.result.refusal (response_told s a.response _ (ap (λ (y : Evaluated). y.refusal) m)) c.if-evaluated-ne0.false
                    (sent_refused s a.time (manager_by s (Respond a.response)) _ (rw (ap (λ (y : Evaluated). y.profiles) m) at q) h
                    (handed_back x (lent a.replies.now a.marks.now c.send-sent.new.table c.send-sent.new.slots polling c.send-sent.new.pids c.send-sent.new.rates) k c.send-sent.result.manager c.send-sent.result.line LineFull c.refuse-then-sent.result refl refl (back_manager _ _ t Nothing _ q h) (back_line _ _ t Nothing _ q h) c.refuse-then-sent.ensures)),
              ),
            ),
          ),
        ),
      ),
    ))

pub store-requires : goal.store-requires
store-requires c = c.requires.marks_len

pub returns : goal.returns
unfolding manager_by
returns c =
    named_marks_len_2_table_len_2_pids_len_2_rates_len_2_pids_unchanged_rates_unchanged_answers (let a = c.args in
    let k = a.core in
    let e = c.send-sent.ensures in
    let f : c.accept.result.notes.summary ≡ c.send-sent.result.summary = rw (c.accept.ensures, c.delivering-notes.ensures) in
    let r = evaluated_stored a.replies.now a.marks.now k.desk k.profiles a.response _ _ c.evaluate-evaluated.result c.evaluate-evaluated.ensures (c.store.ensures.held k.desk k.profiles refl) in (
      c.store.ensures.marks_len,
      (
        e.table_len_2,
        (
          e.pids_len_2,
          (
            e.rates_len_2,
            (
              λ y. e.pids_unchanged (ap (λ (u : Summary). u.ran) (sym f) ∙ y),
              (
                λ y. e.rates_unchanged (ap (λ (u : Summary). u.ran) (sym f) ∙ y),
                λ polling.
                    let x = lent a.replies.now a.marks.now a.table.now a.slots.now polling a.pids.now a.rates.now in
                    let s = box_of x k in
                    let m = c.evaluate-evaluated.ensures s.desk refl in
                    own_settled s a.time (Respond a.response) c.evaluate-evaluated.result.refusal (response_told s a.response _ (ap (λ (y : Evaluated). y.refusal) m)) c.if-evaluated-ne0.false
                    (sent_done s a.time (manager_by s (Respond a.response)) _ (rw (ap (λ (y : Evaluated). y.profiles) m) at e.result_after) c.if-sent.false
                    (responded x (lent c.store.new.replies c.store.new.marks c.send-sent.new.table c.send-sent.new.slots polling c.send-sent.new.pids c.send-sent.new.rates) k a.time c.send-sent.result.manager c.send-sent.result.line c.send-sent.result.summary c.accept.result a.response c.evaluate-evaluated.result m r (rw (c.accept.ensures, c.delivering-notes.ensures)))),
              ),
            ),
          ),
        ),
      ),
    ))
