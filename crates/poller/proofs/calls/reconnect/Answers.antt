use Rattle.std.specs.Prelude.{[], get_or}
use Rattle.poller.specs.Core.{lengths_row}
use Rattle.poller.specs.Cases.{reconnect_done}
use Rattle.poller.proofs.calls.reconnect.Goals as goal

pub returns : goal.returns
returns c =
    λ x. rw (reconnect_done, ← c.reconnect-checked.ensures (get_or x.known lengths_row []) x.ranges)
