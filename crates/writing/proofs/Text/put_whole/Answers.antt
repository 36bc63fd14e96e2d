-- `Text::put_whole` meets its contract.
use mathlib.Core.Path.{sym, ◌∙◌}
use native.Mathlib.Omega.{arith}
use Rattle.writing.specs.Added.{added_fits, whole_fits, whole_full}
use Rattle.writing.proofs.Text.put_whole.Goals as goal

pub returns-then-s-room : goal.returns-then-s-room
returns-then-s-room g c =
    let n = c.room.ensures.room in
    let w = c.room.ensures.within in
    let h = c.if-s-room.true in
    c.put.ensures.text_is ∙ added_fits _ _ _ (omega arith) ∙ sym (whole_fits _ _ _ (omega arith))

pub returns-else-s-room : goal.returns-else-s-room
returns-else-s-room g c =
    let n = c.room.ensures.room in
    let w = c.room.ensures.within in
    let h = c.if-s-room.false in
    sym (whole_full _ _ _ (omega arith))
