use mathlib.Core.Path.{refl, sym, ◌∙◌}
use Rattle.cache.specs.Rules.{ask_refusal, ask_area}
use Rattle.cache_calls.specs.Served.{served_refused, ask_kept, ask_done}
use Rattle.obd2.specs.Call.{ask}
use Rattle.obd2.specs.Core.{with_desk, with_poller, box_of}
use Rattle.obd2.specs.History.{lent_by}
use Rattle.obd2.specs.Keeps.{told_refused, told_done}
use Rattle.obd2.specs.Listed.{first_listed}
use Rattle.obd2.specs.Refusals.{cache_rows, rows_of, row_refusal}
use Rattle.poller.specs.Core.{with_ranges}
use Rattle.cache_calls.proofs.asking.ask.Goals as goal

-- The clauses, each under its name.
named_marks_len_answers_area_after : {A B C : Type 0} → A × (B × C) → record { marks_len : A; answers : B; area_after : C }
named_marks_len_answers_area_after p = record { marks_len = p.0; answers = p.1.0; area_after = p.1.1 }

pub returns-then-asked-ne0 : goal.returns-then-asked-ne0
unfolding ask_refusal ask_area lent_by cache_rows rows_of row_refusal
returns-then-asked-ne0 c =
    named_marks_len_answers_area_after (let a = c.args in
    let n = c.ask-asked.result.refusal in
    let g = c.unpack_all-told.ensures in
    let d = rw g at c.ask-asked.ensures.result_after in
    let f = rw g at c.ask-asked.ensures.area_after in
    let e = rw g at c.ask-asked.ensures.tells.number in
    let h = c.if-asked-ne0.true in (
      c.ask-asked.ensures.marks_len,
      (
        λ x.
            let y = with_poller x (with_ranges x.polling a.ranges.now) in
            let m = c.ask-asked.new.marks in
            let k = ask_kept y a.replies.now a.marks.now m a.core a.time a.number a.cmd.now a.area.now c.ask-asked.result d (λ z. h (e ∙ z)) in
            told_refused (box_of (with_desk y a.replies.now a.marks.now) a.core) (ask a.time a.number a.cmd.now a.area.now) n e h
            (served_refused y a.replies.now a.marks.now m a.core c.ask-asked.result.core n _ c.refuse.result (c.numbered.ensures h (rw e (first_listed _ refl))) k c.refuse.ensures),
        λ x. f,
      ),
    ))

pub returns : goal.returns
unfolding ask_refusal ask_area lent_by cache_rows rows_of row_refusal
returns c =
    named_marks_len_answers_area_after (let a = c.args in
    let n = c.ask-asked.result.refusal in
    let g = c.unpack_all-told.ensures in
    let d = rw g at c.ask-asked.ensures.result_after in
    let f = rw g at c.ask-asked.ensures.area_after in
    let e = rw g at c.ask-asked.ensures.tells.number in
    let z = c.if-asked-ne0.false in (
      c.ask-asked.ensures.marks_len,
      (
        λ x.
            let y = with_poller x (with_ranges x.polling a.ranges.now) in
            told_done (box_of (with_desk y a.replies.now a.marks.now) a.core) (ask a.time a.number a.cmd.now a.area.now) n e z
            (ask_done y a.replies.now a.marks.now c.ask-asked.new.marks a.core a.time a.number a.cmd.now a.area.now c.ask-asked.result d c.accept.result (sym e ∙ z) (rw (c.accept.ensures, c.lines_of-notes.ensures))),
        λ x. f,
      ),
    ))
