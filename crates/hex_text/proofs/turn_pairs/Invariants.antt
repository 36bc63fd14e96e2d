use Rattle.hex_text.specs.Pairs.{pairs}
use Rattle.base.specs.Write.{over}
use lib.ListN.{length, take}
use Prim.Native.Nat.{◌≤◌, ◌-◌, ◌/◌}
use mathlib.Core.Path.{◌≡◌}
use Rattle.hex_text.proofs.turn_pairs.Given as goal

abbrev pub invariant-loop-i : goal.invariant-loop-i
invariant-loop-i l = (l.i ≤ l.n) × (l.n ≡ length l.initial.s / 2) × (length l.s ≡ length l.initial.s) × (length l.block ≡ 64) × (l.s ≡ over l.initial.s 0 (take l.i (pairs l.initial.s)))

abbrev pub decreases-loop-i : goal.decreases-loop-i
decreases-loop-i l = l.n - l.i
