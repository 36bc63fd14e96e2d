-- `writing_pairs::pair` meets its contract.
use Rattle.hex_text.specs.Pairs.{hex_text}
use Rattle.writing.specs.Added.{added_then}
use Rattle.writing_pairs.proofs.pair.Goals as goal

pub returns : goal.returns
unfolding hex_text
returns g c = added_then (rw c.hex_digit.ensures at c.byte.ensures) (rw c.hex_digit-2.ensures at c.byte-2.ensures)
