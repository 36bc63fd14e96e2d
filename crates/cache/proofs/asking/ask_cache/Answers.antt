use Rattle.std.specs.Prelude.{◌≡◌, length}
use mathlib.Core.Path.{refl, sym, ap, ◌∙◌}
use native.Mathlib.Omega.{arith}
use lib.ListN.{length-set}
use borrow.Author.Tests.{lt-ltb, le-ltb}
use Rattle.clients.specs.Rules.{places}
use Rattle.cache.specs.Asking.{asked_in, stranger_asks, busy_asks, short_asks, reads, begins}
use borrow.Author.Rules.{rules}
use Rattle.cache.proofs.asking.ask_cache.Goals as goal
use Rattle.cache.proofs.asking.ask_cache.Goals.{In-Some}

whole : (c : In-Some) → length c.args.core.clients ≡ places
whole c = search rules

pub returns-in_default : goal.returns-in_default
returns-in_default c =
    let a = c.args in
    let p = stranger_asks a.replies.now a.marks.now a.core a.number _ refl a.time a.pid a.area.now c.in_default.ensures in
    record {
      marks_len = search rules;
      result_after = ap (asked_in a.replies.now a.marks.now) c.refuse.ensures ∙ p.0;
      area_after = p.1;
    }

pub returns-then-is_some : goal.returns-then-is_some
returns-then-is_some c =
    let f = c.in-Some.ensures in
    let a = c.args in
    let p = busy_asks a.replies.now a.marks.now a.core a.number _ f.0 a.time a.pid a.area.now f.1 (whole (goal.at.returns-then-is_some c).In-Some) (sym c.is_some.ensures ∙ c.if-is_some.true) in
    record {
      marks_len = search rules;
      result_after = ap (asked_in a.replies.now a.marks.now) c.refuse-then-is_some.ensures ∙ p.0;
      area_after = p.1;
    }

pub returns-then-area-size : goal.returns-then-area-size
returns-then-area-size c =
    let f = c.in-Some.ensures in
    let a = c.args in
    let s = lt-ltb _ _ (rw (c.size.ensures, c.unpack-out.ensures) at c.if-area-size.true) in
    let p = short_asks a.replies.now a.marks.now a.core a.number _ f.0 a.time a.pid a.area.now f.1 (whole (goal.at.returns-then-area-size c).In-Some) (sym c.is_some.ensures ∙ c.if-is_some.false) c.if-marks-at.true s in
    record {
      marks_len = search rules;
      result_after = ap (asked_in a.replies.now a.marks.now) c.refuse-then-area-size.ensures ∙ p.0;
      area_after = p.1;
    }

pub returns-then-marks-at : goal.returns-then-marks-at
returns-then-marks-at c =
    let f = c.in-Some.ensures in
    let a = c.args in
    let s = le-ltb _ _ (rw (c.size.ensures, c.unpack-out.ensures) at c.if-area-size.false) in
    let l : length a.marks.now ≡ places = search rules in
    let p = reads a.replies.now a.marks.now a.core a.number _ f.0 a.time a.pid a.area.now f.1 (whole (goal.at.returns-then-marks-at c).In-Some) (sym c.is_some.ensures ∙ c.if-is_some.false) c.if-marks-at.true s (omega arith) in
    record {
      marks_len = simp length-set l;
      result_after = ap (asked_in a.replies.now _) c.tell.ensures ∙ rw c.unpack-out.ensures p.0;
      area_after = c.copy.ensures ∙ rw c.unpack-out.ensures p.1;
    }

pub returns : goal.returns
returns c =
    let f = c.in-Some.ensures in
    let a = c.args in
    let p = begins a.replies.now a.marks.now a.core a.number _ f.0 a.time a.pid a.area.now f.1 (whole (goal.at.returns c).In-Some) (sym c.is_some.ensures ∙ c.if-is_some.false) c.begin_wait-waiting.result c.begin_wait-waiting.ensures c.if-marks-at.false in
    record {
      marks_len = search rules;
      result_after = ap (asked_in a.replies.now a.marks.now) c.tell-2.ensures ∙ rw c.empty.ensures p.0;
      area_after = p.1;
    }
