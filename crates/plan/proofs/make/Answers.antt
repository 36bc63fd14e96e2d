use lib.ListN.{length}
use Rattle.plan.specs.Gather.{line_made}
use native.Mathlib.Omega.{arith}
use mathlib.Core.Path.{◌≡◌}
use Rattle.pid_list.specs.Rules.{entries, size_of}
use Rattle.pid_list.specs.Laws.{size_le, size_entries}
use Rattle.plan.specs.Steps.{plan_of}
use borrow.Author.Rules.{rules}
use Rattle.plan.proofs.make.Goals as goal

pub add-both-requires : goal.add-both-requires
add-both-requires c = omega (arith, size_le c.args.fast.len)

pub overflow_add-result : goal.overflow_add-result
overflow_add-result c = omega (arith, size_le c.args.fast.len, size_le c.args.slow.len)

pub returns : goal.returns
unfolding plan_of
returns c =
    let a = c.args in
    let n : length (entries a.fast) ≡ size_of a.fast.len = size_entries a.fast (search rules) in
    let m : length (entries a.slow) ≡ size_of a.slow.len = size_entries a.slow (search rules) in
    let e = line_made (entries a.fast) (entries a.slow) (omega (arith, size_le a.fast.len, size_le a.slow.len)) in
    simp (c.add-both.ensures, c.add-first.ensures, c.size-m.ensures, c.size-n.ensures, ← n, e)
