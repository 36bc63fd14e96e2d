-- `history_report::rate` meets its contract.
use Rattle.writing.specs.Added.{added_then}
use Rattle.history_report.specs.Texts.{rate_text, bits_text}
use Rattle.history_report.proofs.rate.Goals as goal

pub returns : goal.returns
unfolding rate_text bits_text
returns g c =
    added_then c.byte.ensures (added_then c.pair.ensures (added_then c.byte-2.ensures (rw c.bits.ensures at c.word.ensures)))
