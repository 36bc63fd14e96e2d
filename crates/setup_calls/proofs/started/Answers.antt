use Rattle.obd2.specs.Core.{lent}
use Rattle.poller.specs.Core.{held}
use Rattle.setup_calls.specs.Cases.{started_is}
use Rattle.setup_calls.proofs.started.Goals as goal

pub returns-clause-by_index : goal.returns-clause-by_index
returns-clause-by_index c =
    λ pids rates.
    let a = c.args in
    let p = c.start-poller.new in
    let x = lent c.start-desk.new.replies c.start-desk.new.marks c.start-managed.new.table c.push_all-line.new.rows (held p.polled p.known p.order p.ranges) pids rates in
    started_is a.time a.settings a.profiles x c.start-desk.result c.start-managed.result c.start-poller.result c.push_all-line.result _ c.start-desk.ensures.result_after (c.start-managed.ensures.by_index pids rates) c.clear-nothing.ensures c.push_all-line.ensures c.start-poller.ensures.result_after
