use mathlib.Core.Path.{refl, ap, ◌∙◌}
use borrow.Author.Tests.{lt-ltb, le-ltb}
use Rattle.cache.specs.Asking.{asked_in, stranger_other, short_other, tells_other}
use Rattle.cache.proofs.asking.ask_other.Goals as goal

pub returns-in_default : goal.returns-in_default
returns-in_default c =
    let a = c.args in record {
      by_index = λ replies marks.
          ap (asked_in replies marks) c.refuse.ensures
          ∙ (stranger_other replies marks a.core a.number _ refl a.answer a.out a.area.now c.in_default.ensures).0;
      by_index_2 = λ replies marks. (stranger_other replies marks a.core a.number _ refl a.answer a.out a.area.now c.in_default.ensures).1;
    }

pub returns-then-area-size : goal.returns-then-area-size
returns-then-area-size c =
    let f = c.in-Some.ensures in
    let a = c.args in
    let s = lt-ltb _ _ (rw c.size.ensures at c.if-area-size.true) in record {
      by_index = λ replies marks.
          ap (asked_in replies marks) c.refuse-then-area-size.ensures
          ∙ (short_other replies marks a.core a.number _ f.0 a.answer a.out a.area.now f.1 s).0;
      by_index_2 = λ replies marks. (short_other replies marks a.core a.number _ f.0 a.answer a.out a.area.now f.1 s).1;
    }

pub returns : goal.returns
returns c =
    let f = c.in-Some.ensures in
    let a = c.args in
    let s = le-ltb _ _ (rw c.size.ensures at c.if-area-size.false) in record {
      by_index = λ replies marks.
          ap (asked_in replies marks) c.tell.ensures
          ∙ (tells_other replies marks a.core a.number _ f.0 a.answer a.out a.area.now f.1 s).0;
      by_index_2 = λ replies marks.
          c.copy.ensures
          ∙ (tells_other replies marks a.core a.number _ f.0 a.answer a.out a.area.now f.1 s).1;
    }
