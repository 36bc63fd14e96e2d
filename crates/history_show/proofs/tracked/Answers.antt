-- `history_show::tracked` meets its contract.
use Rattle.writing.specs.Added.{added_all, added_then}
use Rattle.history_show.specs.Laws.{added_some, added_none, row_tracked, row_absent}
use Rattle.pid_table.specs.Rows.{info_of}
use Rattle.history_show.proofs.tracked.Goals as goal

pub returns-then-row-eq0 : goal.returns-then-row-eq0
returns-then-row-eq0 g c =
    let s = c.args in
    rw (added_none s.more s.pid (info_of s.row) (row_absent s.row c.if-row-eq0.true)) (added_all _ _)

pub returns : goal.returns
returns g c =
    let s = c.args in
    rw (added_some s.more s.pid (info_of s.row) (row_tracked s.row c.if-row-eq0.false)) (added_then c.comma.ensures (rw c.unpack-info.ensures at c.entry.ensures))
