use Rattle.std.proofs.Common.{◌≡◌, length, take}
use Rattle.link.specs.Ranges.{ranges_of, replies_in, replies_of}
use Rattle.link.proofs.ranges.pack_all.Given as goal

abbrev pub invariant-loop-i : goal.invariant-loop-i
invariant-loop-i l = (length l.rows ≡ 8) × (take l.i (ranges_of l.rows) ≡ take l.i l.fn.ranges) × (take l.i (replies_in l.rows) ≡ take l.i (replies_of l.fn.ranges))
