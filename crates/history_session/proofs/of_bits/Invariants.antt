use Prim.Native.Nat.{ℕ, ◌<◌}
use mathlib.Core.Bool.{false}
use mathlib.Core.Path.{◌≡◌}
use lib.ListN.{length, get_or}
use Rattle.history_session.specs.Session.{bit_in}
use Rattle.history_session.proofs.of_bits.Given as goal

abbrev pub invariant-loop-p : goal.invariant-loop-p
invariant-loop-p l = (length l.known ≡ 256) × ((k : ℕ) → k < l.p → get_or l.known k false ≡ bit_in l.bits k)
