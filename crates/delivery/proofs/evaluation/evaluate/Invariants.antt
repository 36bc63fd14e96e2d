use mathlib.Core.Path.{◌≡◌}
use Prim.Native.Nat.{◌≤◌}
use Rattle.desk.specs.declared.Desk.{Desk}
use Rattle.reply.specs.Rules.{max_pids}
use Rattle.delivery.specs.Turns.{answer_after}
use Rattle.delivery.specs.Evaluation.{evaluated_of}
use Rattle.delivery.proofs.evaluation.evaluate.Given as goal

abbrev pub invariant-loop-i : goal.invariant-loop-i
invariant-loop-i l = (l.i ≤ l.n) × (l.n ≤ max_pids) × ((d : Desk) → d.revs ≡ l.initial.evaluated.revs → l.evaluated ≡ evaluated_of (answer_after l.i d l.initial.evaluated.profiles l.response))
