use mathlib.Core.Path.{refl, ap, sym, ◌∙◌}
use Rattle.cache.specs.Rules.{filled_by}
use Rattle.cache_calls.specs.Served.{served_refused, collect_kept, collect_done}
use Rattle.obd2.specs.Call.{collect}
use Rattle.obd2.specs.Core.{with_desk, box_of}
use Rattle.obd2.specs.History.{lent_by}
use Rattle.obd2.specs.Keeps.{told_refused, told_done}
use Rattle.obd2.specs.Listed.{first_listed}
use Rattle.obd2.specs.Refusals.{cache_rows, rows_of, row_refusal}
use Rattle.waits.specs.Laws.{collect_refusal_law}
use Rattle.waits.specs.Rules.{collect_refusal, collect_area}
use Rattle.waits.specs.declared.Collected.{Collected}
use Rattle.cache_calls.proofs.collecting.collect.Goals as goal

-- The clauses, each under its name.
named_marks_len_answers_area_after : {A B C : Type 0} → A × (B × C) → record { marks_len : A; answers : B; area_after : C }
named_marks_len_answers_area_after p = record { marks_len = p.0; answers = p.1.0; area_after = p.1.1 }

pub returns-then-collected-ne0 : goal.returns-then-collected-ne0
unfolding collect_refusal collect_area filled_by lent_by cache_rows rows_of row_refusal
returns-then-collected-ne0 c =
    named_marks_len_answers_area_after (let a = c.args in
    let n = c.collect-collected.result.refusal in
    let h = c.if-collected-ne0.true in (
      c.collect-collected.ensures.marks_len,
      (
        λ x.
            let s = box_of (with_desk x a.replies.now a.marks.now) a.core in
            let m = c.collect-collected.new.marks in
            let e = ap (λ (y : Collected). y.refusal) c.collect-collected.ensures.result_after ∙ collect_refusal_law s.desk a.time a.number _ in
            let k = collect_kept x a.replies.now a.marks.now m a.core a.time a.number a.area.now c.collect-collected.result c.collect-collected.ensures.result_after (λ z. h (e ∙ z)) in
            told_refused s (collect a.time a.number a.area.now) n e h
            (served_refused x a.replies.now a.marks.now m a.core c.collect-collected.result.core n _ c.refuse.result (c.numbered.ensures h (rw e (first_listed _ refl))) k c.refuse.ensures),
        λ x. c.collect-collected.ensures.area_after,
      ),
    ))

pub returns : goal.returns
unfolding collect_refusal collect_area filled_by lent_by cache_rows rows_of row_refusal
returns c =
    named_marks_len_answers_area_after (let a = c.args in
    let n = c.collect-collected.result.refusal in
    let z = c.if-collected-ne0.false in (
      c.collect-collected.ensures.marks_len,
      (
        λ x.
            let s = box_of (with_desk x a.replies.now a.marks.now) a.core in
            let e = ap (λ (y : Collected). y.refusal) c.collect-collected.ensures.result_after ∙ collect_refusal_law s.desk a.time a.number _ in
            told_done s (collect a.time a.number a.area.now) n e z
            (collect_done x a.replies.now a.marks.now c.collect-collected.new.marks a.core a.time a.number a.area.now c.collect-collected.result c.collect-collected.ensures.result_after c.accept.result (sym e ∙ z) (rw (c.accept.ensures, c.lines_of-notes.ensures))),
        λ x. c.collect-collected.ensures.area_after,
      ),
    ))
