use Rattle.std.proofs.Common.{◌≡◌, length, take}
use Rattle.reply.specs.Rows.{store_of}
use Rattle.reply.proofs.rows.unpack_all.Given as goal

abbrev pub invariant-loop-i : goal.invariant-loop-i
invariant-loop-i l = (length l.store ≡ 256) × (take l.i l.store ≡ take l.i (store_of l.fn.rows))
