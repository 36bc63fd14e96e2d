use Rattle.writing.specs.Added.{Left}
use Rattle.history_show.specs.Texts.{tracked_from}
use Rattle.writing_lists.specs.Parted.{parted}
use Rattle.pid_table.specs.Rows.{table_of}
use Rattle.std.specs.Prelude.{false, drop}
use Rattle.history_show.proofs.entries.Given as goal

abbrev pub invariant-loop-i : goal.invariant-loop-i
invariant-loop-i g l =
    Left g.row.N l.initial.out (parted false (tracked_from 0 (table_of l.table))) l.out (parted l.more (tracked_from l.i (drop l.i (table_of l.table))))
