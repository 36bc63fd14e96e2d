-- `history_show::pin` meets its contract.
use Rattle.writing.specs.Added.{added_all}
use Rattle.history_show.specs.Texts.{pin_text}
use Rattle.history_show.proofs.pin.Goals as goal

pub returns-then-pinned : goal.returns-then-pinned
unfolding pin_text
returns-then-pinned g c = rw c.if-pinned.true c.byte.ensures

pub returns-else-pinned : goal.returns-else-pinned
unfolding pin_text
returns-else-pinned g c = rw c.if-pinned.false (added_all _ _)
