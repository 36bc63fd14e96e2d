-- Each turn uses a byte of the input at least. The box's arrays keep their lengths.
use Rattle.std.proofs.Common.{◌≡◌, ◌-◌, ◌≤◌, length}
use Rattle.dispatch.specs.Dispatch.{Whole}
use Rattle.obd2.specs.Core.{lent}
use Rattle.poller.specs.Core.{held}
use Rattle.playing.proofs.play.Given as goal

abbrev pub invariant-loop-at : goal.invariant-loop-at
invariant-loop-at g l =
    (l.at ≤ length l.input) × (length l.line ≡ length l.initial.line) × (length l.bytes ≡ length l.initial.bytes) × (length l.area ≡ length l.initial.area) × Whole (lent l.replies l.marks l.table l.slots (held l.polled l.known l.order l.ranges) l.pids l.rates)

abbrev pub decreases-loop-at : goal.decreases-loop-at
decreases-loop-at g l = length l.input - l.at
