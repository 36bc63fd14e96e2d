use mathlib.Core.Path.{refl, ap, sym, ◌∙◌}
use Rattle.cache_calls.specs.Served.{served_refused, give_up_kept, give_up_done}
use Rattle.obd2.specs.Call.{give_up}
use Rattle.obd2.specs.Core.{box_of}
use Rattle.obd2.specs.Keeps.{told_refused, told_done}
use Rattle.obd2.specs.Listed.{first_listed}
use Rattle.obd2.specs.Refusals.{cache_rows, rows_of, row_refusal}
use Rattle.waits.specs.Laws.{give_up_refusal_law}
use Rattle.waits.specs.Rules.{give_up_refusal}
use Rattle.waits.specs.declared.GivenUp.{GivenUp}
use Rattle.cache_calls.proofs.giving_up.give_up.Goals as goal

pub returns-then-ended-ne0 : goal.returns-then-ended-ne0
unfolding give_up_refusal cache_rows rows_of row_refusal
returns-then-ended-ne0 c =
    λ x.
    let a = c.args in
    let s = box_of x a.core in
    let n = c.give_up-ended.result.refusal in
    let h = c.if-ended-ne0.true in
    let g = c.give_up-ended.ensures x.replies x.marks in
    let e = ap (λ (y : GivenUp). y.refusal) g ∙ give_up_refusal_law s.desk a.number in
    let k = give_up_kept x x.replies x.marks x.marks a.core a.time a.number c.give_up-ended.result g (λ z. h (e ∙ z)) in
    told_refused s (give_up a.time a.number) n e h
    (served_refused x x.replies x.marks x.marks a.core c.give_up-ended.result.core n _ c.refuse.result (c.numbered.ensures h (rw e (first_listed _ refl))) k c.refuse.ensures)

pub returns : goal.returns
unfolding give_up_refusal cache_rows rows_of row_refusal
returns c =
    λ x.
    let a = c.args in
    let s = box_of x a.core in
    let z = c.if-ended-ne0.false in
    let g = c.give_up-ended.ensures x.replies x.marks in
    let e = ap (λ (y : GivenUp). y.refusal) g ∙ give_up_refusal_law s.desk a.number in
    told_done s (give_up a.time a.number) c.give_up-ended.result.refusal e z
    (give_up_done x x.replies x.marks x.marks a.core a.time a.number c.give_up-ended.result g c.accept.result (sym e ∙ z) (rw (c.accept.ensures, c.no_notes-notes.ensures)))
