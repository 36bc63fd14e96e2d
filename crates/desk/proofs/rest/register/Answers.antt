use mathlib.Core.Path.{◌≡◌, refl, ap, sym, ◌∙◌}
use native.Mathlib.Omega.{arith}
use lib.ListN.{length, length-set}
use borrow.Author.Tests.{le-leb, lt-leb}
use Rattle.clients.specs.Rules.{places, place_of}
use Rattle.desk.specs.Rules.{most_numbers}
use Rattle.desk.specs.Cases.{register_numbers, register_full, register_done}
use Rattle.desk.specs.Core.{desk_of, held_place, put_entered}
use Rattle.desk.specs.declared.Registered.{Registered}
use borrow.Author.Rules.{rules}
use Rattle.desk.proofs.rest.register.Goals as goal

pub returns-then-core-ge-MOST_NUMBERS : goal.returns-then-core-ge-MOST_NUMBERS
returns-then-core-ge-MOST_NUMBERS c =
    let a = c.args in
    record {
      marks_len = search rules;
      by_index = λ replies. ap (λ (r : Registered). r.desk) (sym (register_numbers (desk_of replies a.marks.now a.core) (le-leb _ _ c.if-core-ge-MOST_NUMBERS.true)));
    }

pub returns-in_default : goal.returns-in_default
returns-in_default c =
    let a = c.args in record {
      marks_len = search rules;
      by_index = λ replies.
          let d = desk_of replies a.marks.now a.core in
          let e = held_place replies a.marks.now a.core 0 _ refl in
          ap (λ (r : Registered). r.desk) (sym (register_full d (lt-leb most_numbers d.given c.if-core-ge-MOST_NUMBERS.false) (le-leb places (place_of d.clients 0) (rw e at c.in_default.ensures))));
    }

pub returns : goal.returns
returns c =
    let a = c.args in
    let i = c.in-Some.at in
    let p = c.in-Some.ensures in
    let l : length a.marks.now ≡ places = search rules in record {
      marks_len = simp length-set l;
      by_index = λ replies.
          let d = desk_of replies a.marks.now a.core in
          let e = held_place replies a.marks.now a.core 0 i p.0 in
          put_entered replies a.marks.now a.core i c.unmarked-blank.result c.new-newcomer.result e (omega arith) c.unmarked-blank.ensures c.new-newcomer.ensures
          ∙ ap (λ (r : Registered). r.desk) (sym (register_done d (lt-leb most_numbers d.given c.if-core-ge-MOST_NUMBERS.false) (lt-leb places (place_of d.clients 0) (rw e at p.1))));
    }
