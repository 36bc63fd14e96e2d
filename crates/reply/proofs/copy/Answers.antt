use Rattle.std.proofs.Common.{rules, arith, sym, ◌≡◌, length}
use Rattle.reply.specs.Rules.{max_bytes}
use Rattle.reply.specs.Laws.{size_le, filled_short, filled_over}
use Rattle.reply.proofs.copy.Goals as goal
use Rattle.reply.proofs.copy.Goals.{Start}

long : (c : Start) → length c.args.r.bytes ≡ max_bytes
long c = search rules

pub shared_ref_as_front-copy : goal.shared_ref_as_front-copy
shared_ref_as_front-copy c = omega (arith, size_le c.args.r)

pub returns-then-n-area : goal.returns-then-n-area
returns-then-n-area c =
    rw (c.copy.ensures, c.size-n.ensures) (filled_over c.args.r c.args.area.now (long (goal.at.returns-then-n-area c).Start) (omega arith))

pub returns-else-n-area : goal.returns-else-n-area
returns-else-n-area c = sym (filled_short c.args.r c.args.area.now (omega arith))
