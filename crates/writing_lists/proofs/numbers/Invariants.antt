use Rattle.writing.specs.Added.{Left}
use Rattle.numeral.specs.Decimal.{decimal_text}
use Rattle.writing_lists.specs.Parted.{parted, numbers_text}
use mathlib.Core.List.{map}
use lib.ListN.{drop}
use Rattle.writing_lists.proofs.numbers.Given as goal

abbrev pub invariant-loop-number : goal.invariant-loop-number
invariant-loop-number g l = Left g.row.N l.initial.out (numbers_text l.numbers) l.out (parted l.more (drop l.number-index (map decimal_text l.numbers)))
