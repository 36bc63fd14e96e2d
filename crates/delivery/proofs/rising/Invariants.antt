use Prim.Native.Nat.{◌≤◌}
use mathlib.Core.Path.{◌≡◌}
use lib.ListN.{take, drop}
use Rattle.delivery.specs.Rules.{rising_from}
use Rattle.delivery.proofs.rising.Given as goal

abbrev pub invariant-loop-i : goal.invariant-loop-i
invariant-loop-i l = let ps = take l.response.count l.response.pids in
    (l.i ≤ l.n) × (l.least ≤ 256) × (rising_from 0 ps ≡ rising_from l.least (drop l.i ps))
