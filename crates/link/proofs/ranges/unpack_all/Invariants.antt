use Rattle.std.proofs.Common.{◌≡◌, length, take}
use Rattle.link.specs.Ranges.{ranges_of}
use Rattle.link.proofs.ranges.unpack_all.Given as goal

abbrev pub invariant-loop-i : goal.invariant-loop-i
invariant-loop-i l = (length l.ranges ≡ 8) × (take l.i l.ranges ≡ take l.i (ranges_of l.fn.rows))
