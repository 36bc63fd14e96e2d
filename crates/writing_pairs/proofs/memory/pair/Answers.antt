-- `writing_pairs::memory::pair` meets its contract.
use Rattle.hex_text.specs.Pairs.{hex_text}
use Rattle.writing.specs.Fill.{wrote_then}
use Rattle.writing_pairs.proofs.memory.pair.Goals as goal

pub returns : goal.returns
unfolding hex_text
returns c =
    wrote_then (rw c.hex_digit.ensures at c.byte-second.ensures) (rw c.hex_digit-2.ensures at c.byte.ensures)
