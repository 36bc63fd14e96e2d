use mathlib.Core.Path.{refl}
use Rattle.std.specs.Prelude.{◌≡◌, length}
use Rattle.clients.specs.Rules.{places}
use Rattle.waits.specs.Ending.{stranger_gives_up, idle_gives_up, gives_up}
use borrow.Author.Rules.{rules}
use Rattle.waits.proofs.ending.give_up.Goals as goal
use Rattle.waits.proofs.ending.give_up.Goals.{In-Some}

whole : (c : In-Some) → length c.args.core.clients ≡ places
whole c = search rules

pub returns-in_default : goal.returns-in_default
returns-in_default c =
    λ replies marks.
    let a = c.args in
    stranger_gives_up replies marks a.core a.number _ refl c.in_default.ensures

pub returns-in_default-wait : goal.returns-in_default-wait
returns-in_default-wait c =
    λ replies marks.
    let a = c.args in
    let f = c.in-Some.ensures in
    idle_gives_up replies marks a.core a.number _ f.0 f.1 (whole (goal.at.returns-in_default-wait c).In-Some) c.in_default-wait.is

pub returns : goal.returns
returns c =
    λ replies marks.
    let a = c.args in
    let f = c.in-Some.ensures in
    gives_up replies marks a.core a.number _ f.0 f.1 (whole (goal.at.returns c).In-Some) c.end_wait-idle.result c.end_wait-idle.ensures _ c.in-Some-wait.is
