use mathlib.Core.Path.{refl, sym}
use borrow.Author.Tests.{le-leb, lt-leb}
use Rattle.clients.specs.Rules.{places}
use Rattle.desk.specs.Rules.{most_numbers}
use Rattle.desk.specs.Cases.{refusal_numbers, refusal_full, refusal_none}
use Rattle.desk.specs.Core.{desk_of, held_place}
use Rattle.desk.proofs.rest.refusal.Goals as goal

pub returns-then-core-ge-MOST_NUMBERS : goal.returns-then-core-ge-MOST_NUMBERS
returns-then-core-ge-MOST_NUMBERS c = λ replies marks. sym (refusal_numbers _ (le-leb _ _ c.if-core-ge-MOST_NUMBERS.true))

pub returns-in-None : goal.returns-in-None
returns-in-None c =
    λ replies marks.
    let k = c.args.core in
    let e = held_place replies marks k 0 _ refl in
    sym (refusal_full (desk_of replies marks k) (lt-leb most_numbers k.given c.if-core-ge-MOST_NUMBERS.false) (le-leb places _ (rw e at c.in-None.ensures)))

pub returns-in-Some : goal.returns-in-Some
returns-in-Some c =
    λ replies marks.
    let k = c.args.core in
    let e = held_place replies marks k 0 _ c.in-Some.ensures.0 in
    sym (refusal_none (desk_of replies marks k) (lt-leb most_numbers k.given c.if-core-ge-MOST_NUMBERS.false) (lt-leb places _ (rw e at c.in-Some.ensures.1)))
