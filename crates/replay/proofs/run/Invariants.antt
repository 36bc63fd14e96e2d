-- What is lent keeps its lengths.
use Rattle.std.proofs.Common.{◌≡◌, length}
use Rattle.dispatch.specs.Dispatch.{Whole}
use Rattle.obd2.specs.Core.{lent}
use Rattle.poller.specs.Core.{held}
use Rattle.replay.proofs.run.Given as goal

abbrev pub invariant-loop : goal.invariant-loop
invariant-loop g l =
    (length l.line ≡ length l.initial.line) × (length l.bytes ≡ length l.initial.bytes) × (length l.area ≡ length l.initial.area) × Whole (lent l.replies l.marks l.table l.slots (held l.polled l.known l.order l.ranges) l.pids l.rates)
