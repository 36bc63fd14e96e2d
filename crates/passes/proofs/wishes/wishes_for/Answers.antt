use Rattle.std.specs.Prelude.{◌≡◌, length, min}
use Rattle.std.proofs.Common.{rules, ap}
use Rattle.passes.specs.Wanted.{wish_for, none_wanted, in_force_near}
use Rattle.passes.proofs.wishes.wishes_for.Goals as goal

pub returns-in-Register : goal.returns-in-Register
unfolding wish_for
returns-in-Register c =
    let long : length c.args.profiles.list ≡ 16 = search rules in
    let near : c.min.result ≡ min 16 c.args.profiles.count = search rules in
    rw (c.in-Register.is, ← (in_force_near c.args.profiles long)) (rw near at c.wishes.ensures)

pub returns-in-Demote : goal.returns-in-Demote
unfolding wish_for
returns-in-Demote c = rw (c.in-Demote.is, c.none.ensures) none_wanted

pub returns-in-Remove : goal.returns-in-Remove
unfolding wish_for
returns-in-Remove c = rw (c.in-Remove.is, c.none-in-Remove.ensures) none_wanted

pub returns-in-Clear : goal.returns-in-Clear
unfolding wish_for
returns-in-Clear c = rw (c.in-Clear.is, c.none-in-Clear.ensures) none_wanted
