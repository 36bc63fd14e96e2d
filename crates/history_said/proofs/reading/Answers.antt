-- `history_said::reading` meets its contract.
use Rattle.writing.specs.Added.{added_then}
use Rattle.history_said.specs.Texts.{reading_text}
use Rattle.history_said.proofs.reading.Goals as goal

pub returns : goal.returns
unfolding reading_text
returns g c =
    added_then c.put.ensures (added_then c.pair.ensures (added_then c.byte.ensures c.reply_lines.ensures))
