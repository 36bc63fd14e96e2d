use mathlib.Core.Path.{refl, sym, ◌∙◌, ap}
use Rattle.desk.specs.Core.{desk_of}
use Rattle.cache.specs.Rules.{busy, after_ask, answer_of, handed_of}
use Rattle.cache.specs.Cases.{promised_other, promised_cache}
use Rattle.cache.specs.Asking.{asked_in}
use Rattle.cache.specs.declared.Step.TheVariants.{Disconnected, Empty, Unclear, Stored}
use Rattle.cache.specs.declared.Answer.TheVariants.{Unable, NoData, Unknown, Range}
use borrow.Author.Rules.{rules}
use Rattle.cache.proofs.asking.ask.Goals as goal

-- The clauses, each under its name.
named_marks_len_result_after_area_after_tells : {A B C D : Type 0} → A × (B × (C × D)) → record { marks_len : A; result_after : B; area_after : C; tells : D }
named_marks_len_result_after_area_after_tells p = record { marks_len = p.0; result_after = p.1.0; area_after = p.1.1.0; tells = p.1.1.1 }

pub returns-in-Disconnected : goal.returns-in-Disconnected
unfolding busy after_ask answer_of handed_of
returns-in-Disconnected c =
    named_marks_len_result_after_area_after_tells (let a = c.args in
    let r = a.replies.now in
    let m = a.marks.now in
    (search rules, promised_other (asked_in r m c.ask_other.result) _ (desk_of r m a.core) a.time a.number a.ranges _ a.area.now Disconnected (sym c.first_step-step.ensures ∙ c.in-Disconnected.is) Unable c.empty-nothing.result refl refl refl c.empty-nothing.ensures (c.ask_other.ensures.by_index r m) (c.ask_other.ensures.by_index_2 r m)))

pub returns-in-Empty : goal.returns-in-Empty
unfolding busy after_ask answer_of handed_of
returns-in-Empty c =
    named_marks_len_result_after_area_after_tells (let a = c.args in
    let r = a.replies.now in
    let m = a.marks.now in
    (search rules, promised_other (asked_in r m c.ask_other-in-Empty.result) _ (desk_of r m a.core) a.time a.number a.ranges _ a.area.now Empty (sym c.first_step-step.ensures ∙ c.in-Empty.is) NoData c.empty-nothing.result refl refl refl c.empty-nothing.ensures (c.ask_other-in-Empty.ensures.by_index r m) (c.ask_other-in-Empty.ensures.by_index_2 r m)))

pub returns-in-Unclear : goal.returns-in-Unclear
unfolding busy after_ask answer_of handed_of
returns-in-Unclear c =
    named_marks_len_result_after_area_after_tells (let a = c.args in
    let r = a.replies.now in
    let m = a.marks.now in
    (search rules, promised_other (asked_in r m c.ask_other-in-Unclear.result) _ (desk_of r m a.core) a.time a.number a.ranges _ a.area.now Unclear (sym c.first_step-step.ensures ∙ c.in-Unclear.is) Unknown c.empty-nothing.result refl refl refl c.empty-nothing.ensures (c.ask_other-in-Unclear.ensures.by_index r m) (c.ask_other-in-Unclear.ensures.by_index_2 r m)))

pub returns-in-Stored : goal.returns-in-Stored
unfolding busy after_ask answer_of handed_of
returns-in-Stored c =
    named_marks_len_result_after_area_after_tells (let a = c.args in
    let r = a.replies.now in
    let m = a.marks.now in
    let n = c.in-Stored.n in
    (search rules, promised_other (asked_in r m c.ask_other-in-Stored.result) _ (desk_of r m a.core) a.time a.number a.ranges _ a.area.now (Stored n) (sym c.first_step-step.ensures ∙ c.in-Stored.is) Range c.unwrap_or-out.result refl refl refl (c.unwrap_or-out.ensures ∙ rw (c.range-found.ensures, c.empty-nothing.ensures)) (c.ask_other-in-Stored.ensures.by_index r m) (c.ask_other-in-Stored.ensures.by_index_2 r m)))

pub returns-in-ToCache : goal.returns-in-ToCache
returns-in-ToCache c =
    named_marks_len_result_after_area_after_tells (let a = c.args in
    let r = a.replies.now in
    let p = c.in-ToCache.pid in
    (c.ask_cache.ensures.marks_len, promised_cache (asked_in r _ c.ask_cache.result) _ (desk_of r a.marks.now a.core) a.time a.number a.ranges _ a.area.now p (sym c.first_step-step.ensures ∙ c.in-ToCache.is) c.ask_cache.ensures.result_after c.ask_cache.ensures.area_after))
