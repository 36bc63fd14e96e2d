use Rattle.hex_text.specs.Pairs.{hex_text}
use Rattle.writing.specs.Fill.{Left}
use lib.ListN.{length, drop}
use mathlib.Core.Path.{◌≡◌}
use Rattle.writing_pairs.proofs.memory.pairs.Given as goal

abbrev pub invariant-loop-b : goal.invariant-loop-b
invariant-loop-b l = (length l.out ≡ length l.initial.out) × Left l.initial.out l.at (hex_text l.bytes) l.out l.place (hex_text (drop l.b-index l.bytes))
