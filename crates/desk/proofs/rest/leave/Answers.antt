use mathlib.Core.Path.{◌≡◌, refl, sym, ◌∙◌}
use native.Mathlib.Omega.{arith}
use lib.ListN.{length, length-set}
use Rattle.clients.specs.Rules.{places}
use Rattle.desk.specs.Cases.{leave_done, leave_nobody, seat_taken, seat_missing, at_place}
use Rattle.desk.specs.Core.{desk_of, held_seat, put_new}
use borrow.Author.Rules.{rules}
use Rattle.desk.proofs.rest.leave.Goals as goal

pub returns-in_default : goal.returns-in_default
returns-in_default c =
    let a = c.args in record {
      marks_len = search rules;
      by_index = λ replies.
          let d = desk_of replies a.marks.now a.core in
          sym (leave_nobody d a.number (seat_missing d a.number _ (held_seat replies a.marks.now a.core a.number _ refl) c.in_default.ensures));
    }

pub returns : goal.returns
returns c =
    let a = c.args in
    let i = c.in-Some.at in
    let f = c.in-Some.ensures in
    let l : length a.marks.now ≡ places = search rules in record {
      marks_len = simp length-set l;
      by_index = λ replies.
          let d = desk_of replies a.marks.now a.core in
          let e = held_seat replies a.marks.now a.core a.number i f.0 in
          put_new replies a.marks.now a.core a.number i 0 c.unmarked-blank.result c.new-free.result (at_place d a.number _ e f.1) (omega arith) c.unmarked-blank.ensures c.new-free.ensures
          ∙ sym (leave_done d a.number (seat_taken d a.number _ e f.1));
    }
