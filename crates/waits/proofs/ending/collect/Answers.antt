use Rattle.std.specs.Prelude.{◌≡◌, length}
use mathlib.Core.Path.{refl, ap, ◌∙◌}
use native.Mathlib.Omega.{arith}
use lib.ListN.{length-set}
use borrow.Author.Tests.{lt-ltb, le-ltb, not-true, not-false}
use Rattle.clients.specs.Rules.{places}
use Rattle.waits.specs.Ending.{collected_in, stranger_collects, idle_collects, early_collects, short_collects, collects}
use borrow.Author.Rules.{rules}
use Rattle.waits.proofs.ending.collect.Goals as goal
use Rattle.waits.proofs.ending.collect.Goals.{In-Some}

whole : (c : In-Some) → length c.args.core.clients ≡ places
whole c = search rules

pub returns-in_default : goal.returns-in_default
returns-in_default c =
    let a = c.args in
    let p = stranger_collects a.replies.now a.marks.now a.core a.number _ refl c.in_default.ensures a.time a.area.now in
    record {
      marks_len = search rules;
      result_after = ap (collected_in a.replies.now a.marks.now) c.refuse.ensures ∙ p.0;
      area_after = p.1;
    }

pub returns-in_default-wait : goal.returns-in_default-wait
returns-in_default-wait c =
    let f = c.in-Some.ensures in
    let a = c.args in
    let p = idle_collects a.replies.now a.marks.now a.core a.number _ f.0 f.1 (whole (goal.at.returns-in_default-wait c).In-Some) a.time a.area.now c.in_default-wait.is in
    record {
      marks_len = search rules;
      result_after = ap (collected_in a.replies.now a.marks.now) c.refuse-in_default-wait.ensures ∙ p.0;
      area_after = p.1;
    }

pub returns-then-not-marks-at : goal.returns-then-not-marks-at
returns-then-not-marks-at c =
    let f = c.in-Some.ensures in
    let a = c.args in
    let p = early_collects a.replies.now a.marks.now a.core a.number _ f.0 f.1 (whole (goal.at.returns-then-not-marks-at c).In-Some) a.time a.area.now c.in-Some-wait.wait c.in-Some-wait.is (not-true _ (rw c.row-i.ensures.0 at c.if-not-marks-at.true-raw)) in
    record {
      marks_len = search rules;
      result_after = ap (collected_in a.replies.now a.marks.now) c.refuse-then-not-marks-at.ensures ∙ p.0;
      area_after = p.1;
    }

pub returns-then-area-size : goal.returns-then-area-size
returns-then-area-size c =
    let f = c.in-Some.ensures in
    let a = c.args in
    let s = lt-ltb _ _ (rw (c.size.ensures, c.unpack-out.ensures, c.row-i.ensures.0) at c.if-area-size.true) in
    let p = short_collects a.replies.now a.marks.now a.core a.number _ f.0 f.1 (whole (goal.at.returns-then-area-size c).In-Some) a.time a.area.now c.in-Some-wait.wait c.in-Some-wait.is (not-false _ (rw c.row-i.ensures.0 at c.if-not-marks-at.false-raw)) s in
    record {
      marks_len = search rules;
      result_after = ap (collected_in a.replies.now a.marks.now) c.refuse-then-area-size.ensures ∙ p.0;
      area_after = p.1;
    }

pub returns : goal.returns
returns c =
    let f = c.in-Some.ensures in
    let a = c.args in
    let s = le-ltb _ _ (rw (c.size.ensures, c.unpack-out.ensures, c.row-i.ensures.0) at c.if-area-size.false) in
    let l : length a.marks.now ≡ places = search rules in
    let p = collects a.replies.now a.marks.now a.core a.number _ f.0 f.1 (whole (goal.at.returns c).In-Some) a.time a.area.now c.in-Some-wait.wait c.in-Some-wait.is (not-false _ (rw c.row-i.ensures.0 at c.if-not-marks-at.false-raw)) c.end_wait-served.result c.end_wait-served.ensures (omega arith) s c.elapsed-waited.result c.elapsed-waited.ensures in
    record {
      marks_len = simp length-set l;
      result_after = ap (collected_in a.replies.now _) c.hand.ensures ∙ rw (c.unpack-out.ensures, c.row-i.ensures.0) p.0;
      area_after = c.copy.ensures ∙ rw (c.unpack-out.ensures, c.row-i.ensures.0) p.1;
    }
