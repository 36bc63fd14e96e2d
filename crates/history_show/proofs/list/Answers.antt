-- `history_show::list` meets its contract.
use Rattle.writing.specs.Added.{added_then}
use Rattle.history_show.specs.Texts.{list_text}
use Rattle.pid_list.specs.Rules.{entries}
use Rattle.pid_list.specs.Laws.{size_le}
use Rattle.std.specs.Prelude.{◌≡◌, length}
use lib.Seq.{length-take-le}
use mathlib.Core.Path.{sym}
use borrow.Author.Rules.{rules}
use Rattle.history_show.proofs.list.Goals as goal
use Rattle.history_show.proofs.list.Goals.{Start}

-- a list has 256 places
whole : (g : _) (c : Start g) → length c.args.list.pids ≡ 256
whole g c = search rules

pub slice_bounds-pids-end : goal.slice_bounds-pids-end
slice_bounds-pids-end g c = rw (whole g (goal.at.slice_bounds-pids-end g c).Start, c.size-n.ensures) (size_le _)

pub slice_bounds-pids-end-2 : goal.slice_bounds-pids-end-2
slice_bounds-pids-end-2 g c =
    sym (length-take-le _ _ (rw (whole g (goal.at.slice_bounds-pids-end-2 g c).Start, c.size-n.ensures) (size_le _)))

pub returns : goal.returns
unfolding list_text entries
returns g c =
    added_then c.byte.ensures (added_then c.number.ensures (added_then c.byte-2.ensures (rw c.size-n.ensures at c.pids.ensures)))
