use Rattle.std.proofs.Common.{◌≡◌, ◌<◌, ◌≤◌, max, drop}
use Rattle.plan.specs.Steps.{key_in, line_of, gather_of}
use Rattle.plan.specs.Gather.{gather_from}
use Rattle.plan.proofs.gather.Given as goal

abbrev pub invariant-loop-i : goal.invariant-loop-i
invariant-loop-i l =
    (l.count < l.w) × (gather_from (key_in l.p) l.wanted l.w (drop l.i (line_of l.p)) l.pids l.count l.i ≡ gather_of l.p l.wanted l.from)
    × (l.i ≤ max l.n l.from)
