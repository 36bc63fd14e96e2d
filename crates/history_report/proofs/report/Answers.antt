-- `history_report::report` meets its contract.
use Rattle.writing.specs.Added.{added_all, added_then}
use Rattle.history_report.specs.Texts.{bits_text}
use Rattle.history_report.specs.Laws.{report_none, report_some}
use borrow.Author.Tests.{not-true, not-false}
use Rattle.history_report.proofs.report.Goals as goal

pub returns-then-not-summary : goal.returns-then-not-summary
returns-then-not-summary g c =
    let s = c.args in
    rw (report_none s.pids.now s.rates.now s.summary (not-true s.summary.ran c.if-not-summary.true)) (added_all _ _)

pub returns : goal.returns
unfolding bits_text
returns g c =
    let s = c.args in
    let w = rw c.bits.ensures at c.word.ensures in
    rw (report_some s.pids.now s.rates.now s.summary (not-false s.summary.ran c.if-not-summary.false)) (added_then c.put.ensures (added_then c.metrics.ensures (added_then c.byte.ensures (added_then w c.listed.ensures))))
