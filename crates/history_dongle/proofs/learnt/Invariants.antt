use Prim.Native.Nat.{◌≤◌, ◌+◌}
use mathlib.Core.Path.{◌≡◌}
use lib.ListN.{length}
use Rattle.history_items.specs.Items.{items_of, items_left}
use Rattle.history_dongle.specs.Lists.{learnts_from, learnts_of}
use Rattle.history_dongle.proofs.learnt.Given as goal

abbrev pub invariant-loop-token : goal.invariant-loop-token
invariant-loop-token l =
    (l.read.count + length (items_left l.token-iterator) ≤ length l.s) × (learnts_of (items_of 32 l.s) ≡ learnts_from l.read (items_left l.token-iterator))
