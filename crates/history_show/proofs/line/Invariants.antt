use Rattle.writing.specs.Added.{Left}
use Rattle.history_show.specs.Texts.{message_text}
use Rattle.writing_lists.specs.Parted.{parted}
use Rattle.control_line.specs.Ring.{from}
use Rattle.control_line.specs.Rows.{slots_of}
use Rattle.std.specs.Prelude.{◌+◌, ◌-◌, false, map}
use Rattle.history_show.proofs.line.Given as goal

abbrev pub invariant-loop-i : goal.invariant-loop-i
invariant-loop-i g l =
    Left g.row.N l.initial.out (parted false (map message_text (from (slots_of l.slots) l.head l.n))) l.out (parted l.more (map message_text (from (slots_of l.slots) (l.head + l.i) (l.n - l.i))))
