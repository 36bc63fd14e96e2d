use Rattle.obd2.specs.Core.{lent}
use Rattle.poller.specs.Core.{held}
use Rattle.setup_calls.specs.Cases.{refused_start, accepted_start}
use Rattle.setup_calls.proofs.start.Goals as goal

pub returns-in-Some-clause-by_index : goal.returns-in-Some-clause-by_index
returns-in-Some-clause-by_index c =
    λ pids rates.
    let a = c.args in
    let y = c.started-core.new in
    let x = lent y.replies y.marks y.table y.slots (held y.polled y.known y.order y.ranges) pids rates in
    refused_start a.time a.settings a.profiles x _ _ _ _ _ (rw c.in-Some.is at c.unfit.ensures) (c.started-core.ensures.by_index pids rates) c.default_settings-settings.ensures c.no_profiles-profiles.ensures c.refuse.ensures

pub returns-in-None-clause-by_index : goal.returns-in-None-clause-by_index
returns-in-None-clause-by_index c =
    λ pids rates.
    let a = c.args in
    let y = c.started-core-in-None.new in
    let x = lent y.replies y.marks y.table y.slots (held y.polled y.known y.order y.ranges) pids rates in
    accepted_start a.time a.settings a.profiles x _ _ (rw c.in-None.is at c.unfit.ensures) (c.started-core-in-None.ensures.by_index pids rates) c.no_notes.ensures
