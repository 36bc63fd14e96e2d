-- `history_answer::answer` meets its contract.
use Rattle.writing.specs.Added.{added_then}
use Rattle.history_answer.specs.Texts.{answer_text}
use Rattle.obd2.specs.Core.{lent}
use Rattle.poller.specs.Core.{held}
use Rattle.std.specs.Prelude.{[]}
use Rattle.history_answer.proofs.answer.Goals as goal

pub returns : goal.returns
unfolding answer_text
returns g c =
    let s = c.args in
    added_then (c.said.ensures (lent [] [] [] [] (held [] [] [] []) s.pids.now s.rates.now)) (added_then c.report.ensures c.byte.ensures)
