use mathlib.Core.Path.{ap}
use Rattle.manager.specs.Rows.{answer_of}
use Rattle.manager.specs.declared.Answer.{Answer}
use Rattle.manager_calls.proofs.tried.Goals as goal

pub returns : goal.returns
unfolding answer_of
returns c = ap (λ (a : Answer). a.outbox.count) c.handle-handled.ensures.result_after
