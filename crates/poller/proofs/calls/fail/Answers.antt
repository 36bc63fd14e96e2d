use Rattle.std.specs.Prelude.{[], get_or}
use Rattle.poller.specs.Core.{lengths_row}
use Rattle.poller.specs.Cases.{fail_done}
use Rattle.poller.proofs.calls.fail.Goals as goal

pub returns : goal.returns
returns c = record { result_after = λ x. rw (fail_done, ← c.fail-tried.ensures.result_after (get_or x.known lengths_row [])); behind = c.fail-tried.ensures.behind }
