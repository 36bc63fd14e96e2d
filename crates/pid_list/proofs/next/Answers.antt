use Rattle.std.proofs.Common.{arith, ◌≡◌, ◌<◌}
use Rattle.pid_list.specs.Laws.{wrap_lt, size_le}
use Rattle.pid_list.proofs.next.Goals as goal
use Rattle.pid_list.proofs.next.Goals.{After-wrapped-at}

small : (c : After-wrapped-at) → c.wrapped-at.result < 256
small c =
    let n = c.size-n.result in
    let z : (n ≡ 0 → ⊥) = c.if-n-eq0.false in
    omega (arith, wrap_lt c.args.l.index n (omega arith), size_le c.args.l.len)

pub bounds-l-at : goal.bounds-l-at
bounds-l-at c = omega (arith, small (goal.at.bounds-l-at c).After-wrapped-at)

pub overflow_add-at : goal.overflow_add-at
overflow_add-at c = omega (arith, small (goal.at.overflow_add-at c).After-wrapped-at)
