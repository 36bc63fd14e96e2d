use Rattle.std.proofs.Common.{◌≡◌, length, take}
use Rattle.reply.specs.Rows.{store_of}
use Rattle.reply.proofs.rows.pack_all.Given as goal

abbrev pub invariant-loop-i : goal.invariant-loop-i
invariant-loop-i l = (length l.rows ≡ 256) × (take l.i (store_of l.rows) ≡ take l.i l.fn.store)
