use Rattle.writing.specs.Added.{Left}
use Rattle.writing_pairs.specs.Pairs.{pid_text}
use Rattle.writing_lists.specs.Parted.{parted, pids_text}
use mathlib.Core.List.{map}
use lib.ListN.{drop}
use Rattle.writing_lists.proofs.pids.Given as goal

abbrev pub invariant-loop-pid : goal.invariant-loop-pid
invariant-loop-pid g l = Left g.row.N l.initial.out (pids_text l.pids) l.out (parted l.more (drop l.pid-index (map pid_text l.pids)))
