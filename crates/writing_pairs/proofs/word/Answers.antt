-- `writing_pairs::word` meets its contract.
use Rattle.hex_text.specs.Pairs.{hex_text}
use Rattle.writing.specs.Added.{added_then}
use Rattle.writing_pairs.specs.Pairs.{word_text}
use Rattle.writing_pairs.proofs.word.Goals as goal

pub returns : goal.returns
unfolding word_text hex_text
returns g c = added_then c.pair.ensures (added_then c.pair-2.ensures (added_then c.pair-3.ensures c.pair-4.ensures))
