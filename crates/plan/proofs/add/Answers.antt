use Rattle.std.proofs.Common.{rules, arith, ◌≡◌, length}
use Rattle.pid_list.specs.Rules.{entries, size_of}
use Rattle.pid_list.specs.Laws.{size_le, size_entries}
use Rattle.plan.specs.Gather.{sets_lent}
use Rattle.plan.proofs.add.Goals as goal

pub shared_ref_as_front-copy : goal.shared_ref_as_front-copy
shared_ref_as_front-copy c = omega (arith, size_le c.args.l.len)

pub returns : goal.returns
unfolding entries
returns c =
    let a = c.args in
    let l : length a.pids ≡ 512 = search rules in
    let h : length a.l.pids ≡ 256 = search rules in
    let n : length (entries a.l) ≡ size_of a.l.len = size_entries a.l h in
    sets_lent a.pids (entries a.l) _ a.base 512 l (omega (arith, size_le a.l.len)) (rw c.size-n.ensures at c.copy.ensures)
