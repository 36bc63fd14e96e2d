use Rattle.transcript.specs.Lines.{Filled}
use mathlib.Core.Path.{◌≡◌}
use lib.ListN.{length}
use Rattle.transcript.proofs.feed.Given as goal

abbrev pub invariant-loop-i : goal.invariant-loop-i
invariant-loop-i l =
    (length l.out ≡ length l.initial.out) × Filled l.initial.current l.input l.initial.out l.i l.current l.at l.out
