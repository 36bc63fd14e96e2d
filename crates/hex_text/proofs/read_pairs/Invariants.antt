use Rattle.std.proofs.Common.{◌≡◌, take}
use Rattle.base.specs.Write.{over}
use Rattle.hex_text.specs.Pairs.{pairs}
use Rattle.hex_text.proofs.read_pairs.Given as goal

abbrev pub invariant-loop-i : goal.invariant-loop-i
invariant-loop-i l = l.out ≡ over l.initial.out 0 (take l.i (pairs l.s))
