-- `writing_lists::numbers` meets its contract. The invariant: what is left of the list.
use Rattle.writing.specs.Added.{left_all, left_next, left_last}
use Rattle.numeral.specs.Decimal.{decimal_text}
use Rattle.writing_lists.specs.Parted.{numbers_text, each_next, each_end}
use mathlib.Core.Path.{refl}
use Rattle.writing_lists.proofs.numbers.Goals as goal

pub loop-number-init : goal.loop-number-init
unfolding numbers_text
loop-number-init g c = left_all _ _ _

pub loop-number-preserved : goal.loop-number-preserved
loop-number-preserved g c =
    let l = left_next c.loop-number.invariant (each_next decimal_text c.args.numbers.now c.loop-number.more c.loop-number.number-index 0 c.loop-number-test.true) c.comma.ensures in
    left_next l refl (rw c.from.ensures at c.number.ensures)

pub returns : goal.returns
returns g c =
    left_last c.loop-number.invariant (each_end decimal_text c.args.numbers.now c.loop-number.more c.loop-number.number-index c.loop-number-test.false) c.none.ensures
