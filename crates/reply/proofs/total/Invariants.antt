use Rattle.std.proofs.Common.{◌≡◌, ◌+◌, ◌*◌, ◌≤◌, drop}
use Rattle.reply.specs.Rules.{sum_of, lengths_of, total_of}
use Rattle.reply.proofs.total.Given as goal

abbrev pub invariant-loop-length : goal.invariant-loop-length
invariant-loop-length l = (l.sum ≤ 255 * l.length-index) × (l.sum + sum_of (drop l.length-index (lengths_of l.fn.r)) ≡ total_of l.fn.r)
