use Rattle.numeral.specs.Decimal.{digits_onto, decimal_text}
use lib.ListN.{length, drop}
use Prim.Native.Nat.{◌≤◌}
use mathlib.Core.Path.{◌≡◌}
use Rattle.numeral.proofs.spell.Given as goal

abbrev pub invariant-loop-i : goal.invariant-loop-i
invariant-loop-i l = (l.i ≤ 20) × (length l.digits ≡ 20) × (decimal_text l.n ≡ digits_onto l.i l.left (drop l.i l.digits))

abbrev pub decreases-loop-i : goal.decreases-loop-i
decreases-loop-i l = l.i
