-- `history_report::metrics` meets its contract.
use Rattle.writing.specs.Added.{added_then}
use Rattle.history_report.specs.Texts.{metrics_text}
use Rattle.history_report.proofs.metrics.Goals as goal

pub returns : goal.returns
unfolding metrics_text
returns g c =
    added_then c.number.ensures (added_then c.byte.ensures (added_then c.number-2.ensures (added_then c.byte-2.ensures c.number-3.ensures)))
