-- `history_said::range` meets its contract.
use Rattle.writing.specs.Added.{added_then}
use Rattle.history_said.specs.Texts.{range_text}
use Rattle.history_said.proofs.range.Goals as goal

pub returns : goal.returns
unfolding range_text
returns g c = added_then c.put.ensures c.reply_lines.ensures
