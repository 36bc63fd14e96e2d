use Rattle.writing.specs.Added.{Left}
use Rattle.history_said.specs.Texts.{values_from}
use Rattle.std.specs.Prelude.{◌-◌}
use Rattle.history_said.proofs.values.Given as goal

abbrev pub invariant-loop-i : goal.invariant-loop-i
invariant-loop-i g l =
    Left g.row.N l.initial.out (values_from 0 l.n l.pids l.values l.notices) l.out (values_from l.i (l.n - l.i) l.pids l.values l.notices)
