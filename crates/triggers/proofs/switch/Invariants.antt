use mathlib.Core.Path.{◌≡◌}
use Rattle.base.specs.Each.{each_of}
use Rattle.triggers.specs.Rules.{switched_of}
use Rattle.triggers.proofs.switch.Given as goal

abbrev pub invariant-loop-i : goal.invariant-loop-i
invariant-loop-i l = l.list ≡ each_of l.i (switched_of l.pid l.value) l.initial.list
