use Rattle.std.proofs.Common.{arith, sym, ◌≡◌, ◌∙◌, length, take, lt-ltb, le-ltb}
use Rattle.pid_list.specs.Rules.{size_of, place, swap_out, entries}
use Rattle.pid_list.specs.Laws.{size_le, size_entries, placed, unplaced}
use borrow.Author.Rules.{rules}
use Rattle.pid_list.proofs.swap_remove.Goals as goal
use Rattle.pid_list.proofs.swap_remove.Goals.{Start}

long : (c : Start) → length c.args.l.pids ≡ 256
long c = search rules

pub shared_ref_as_front-find : goal.shared_ref_as_front-find
shared_ref_as_front-find c = omega (arith, size_le c.args.l.len)

pub returns-in-Some : goal.returns-in-Some
unfolding swap_out entries
returns-in-Some c =
    let l = c.args.l in
    let e = rw c.size-n.ensures at (sym c.find.ensures ∙ c.in-Some.is) in
    let q = placed (take (size_of l.len) l.pids) c.args.pid c.in-Some.at e in
    let t = size_entries l (long (goal.at.returns-in-Some c).Start) in
    rw (c.size-n.ensures, q.0, lt-ltb (place (entries l) c.args.pid) (size_of l.len) (omega arith))

pub returns-in_default : goal.returns-in_default
unfolding swap_out entries
returns-in_default c =
    let l = c.args.l in
    let e = rw c.size-n.ensures at (sym c.find.ensures ∙ c.in_default.is) in
    let q = unplaced (take (size_of l.len) l.pids) c.args.pid e in
    let t = size_entries l (long (goal.at.returns-in_default c).Start) in
    rw (c.size-n.ensures, le-ltb (place (entries l) c.args.pid) (size_of l.len) (omega arith))
