use Rattle.hex_text.specs.Pairs.{hex_text}
use Rattle.writing.specs.Added.{Left}
use lib.ListN.{drop}
use Rattle.writing_pairs.proofs.pairs.Given as goal

abbrev pub invariant-loop-b : goal.invariant-loop-b
invariant-loop-b g l = Left g.row.N l.initial.out (hex_text l.bytes) l.out (hex_text (drop l.b-index l.bytes))
