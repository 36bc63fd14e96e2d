use Rattle.writing.specs.Added.{added_then}
use Rattle.history_show.specs.Texts.{show_text}
use Rattle.manager.specs.Rows.{manager_of}
use Rattle.history_show.proofs.show.Goals as goal

pub returns : goal.returns
unfolding show_text manager_of
returns g c =
    let slow = rw c.slow-slow.ensures at c.list-2.ensures in
    let fast = rw c.fast-fast.ensures at c.list.ensures in
    λ x. added_then c.put.ensures (added_then c.number.ensures (added_then fast (added_then slow (added_then c.entries.ensures (added_then c.line.ensures (added_then c.revs.ensures c.byte.ensures))))))
