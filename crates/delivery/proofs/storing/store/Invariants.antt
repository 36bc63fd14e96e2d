use mathlib.Core.Path.{◌≡◌}
use Prim.Native.Nat.{◌≤◌}
use lib.ListN.{length}
use Rattle.clients.specs.Rules.{places}
use Rattle.config.specs.declared.Profiles.{Profiles}
use Rattle.desk.specs.Core.{desk_of}
use Rattle.desk.specs.declared.rest.Core.{Core}
use Rattle.reply.specs.Rules.{max_pids}
use Rattle.delivery.specs.Turns.{answer_after}
use Rattle.delivery.specs.Storing.{Held}
use Rattle.delivery.proofs.storing.store.Given as goal

abbrev pub invariant-loop-i : goal.invariant-loop-i
invariant-loop-i l = (l.i ≤ l.n)
    × (l.n ≤ max_pids)
    × (length l.marks ≡ places)
    × ((k : Core) (ps : Profiles) → k.clients ≡ l.clients → Held l.replies l.marks k (answer_after l.i (desk_of l.initial.replies l.initial.marks k) ps l.response).desk)
