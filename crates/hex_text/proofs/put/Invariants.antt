use Rattle.hex_text.specs.Pairs.{Filled}
use lib.ListN.{length}
use Prim.Native.Nat.{◌≤◌, ◌-◌, ◌+◌, ◌*◌}
use Rattle.hex_text.proofs.put.Given as goal

abbrev pub invariant-loop-i : goal.invariant-loop-i
invariant-loop-i l = (l.i ≤ length l.bytes) × (l.at + 2 * length l.bytes ≤ length l.initial.out) × Filled l.initial.out l.at l.bytes l.i l.place l.out

abbrev pub decreases-loop-i : goal.decreases-loop-i
decreases-loop-i l = length l.bytes - l.i
