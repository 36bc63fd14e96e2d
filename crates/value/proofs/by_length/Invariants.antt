use mathlib.Core.Path.{◌≡◌}
use Prim.Native.Nat.{◌<◌, ◌^◌}
use lib.ListN.{drop}
use Rattle.value.specs.Rules.{fold_of, data_of}
use Rattle.value.proofs.by_length.Given as goal

abbrev pub invariant-loop-i : goal.invariant-loop-i
invariant-loop-i l = (l.acc < 256 ^ l.i) × (fold_of l.acc (drop l.i (data_of l.n l.r)) ≡ fold_of 0 (data_of l.n l.r))
