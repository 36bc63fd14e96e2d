use Rattle.std.proofs.Common.{◌≡◌, drop}
use Rattle.plan.specs.Steps.{key_in, line_of, least_in, least_from}
use Rattle.plan.proofs.least.Given as goal

abbrev pub invariant-loop-pid : goal.invariant-loop-pid
invariant-loop-pid l = least_from (key_in l.fn.p) l.above l.best (drop l.pid-index (line_of l.fn.p)) ≡ least_in l.fn.p l.above
