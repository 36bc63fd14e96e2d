-- `history_replies::fill` meets its contract.
use Rattle.std.specs.Prelude.{ℕ, Result, Err}
use native.Mathlib.Omega.{arith}
use mathlib.Core.Path.{sym, ap, ◌∙◌}
use lib.Seq.{length-take-le}
use Rattle.history_replies.specs.declared.Placed.{Placed}
use Rattle.hex_text.specs.Room.{count_says, bad_says, short_says}
use Rattle.history_replies.specs.Replies.{filled_bad, filled_count, filled_short}
use Rattle.history_replies.proofs.fill.Goals as goal
use Rattle.hex_text.specs.declared.Unread.{Unread}

abbrev read_of : Placed → Result ℕ Unread
read_of p = p.read

pub overflow_add-result : goal.overflow_add-result
overflow_add-result c =
    let n = count_says _ _ _ (ap read_of c.place-whole.ensures) _ c.in-Ok.is in
    omega arith

pub slice_bounds-place-end : goal.slice_bounds-place-end
slice_bounds-place-end c =
    let n = short_says _ _ _ (ap read_of c.place-whole.ensures) (c.in-Err-Short.is ∙ ap Err (rw c.in-Err-Short.is at c.in-Err-Short.field-0-is)) in
    sym (length-take-le _ _ (omega arith))

pub returns-in-Ok : goal.returns-in-Ok
returns-in-Ok c =
    let n = count_says _ _ _ (ap read_of c.place-whole.ensures) _ c.in-Ok.is in
    rw c.place-whole.ensures (filled_count _ _ _ c.requires n.0 _ n.1 n.2)

pub returns-in-Err-Short : goal.returns-in-Err-Short
returns-in-Err-Short c =
    let n = short_says _ _ _ (ap read_of c.place-whole.ensures) (c.in-Err-Short.is ∙ ap Err (rw c.in-Err-Short.is at c.in-Err-Short.field-0-is)) in
    rw c.place-start.ensures (filled_short _ _ _ c.requires n.0 n.1)

pub returns-in-Err-Bad : goal.returns-in-Err-Bad
returns-in-Err-Bad c =
    let n = bad_says _ _ _ (ap read_of c.place-whole.ensures) (c.in-Err-Bad.is ∙ ap Err (rw c.in-Err-Bad.is at c.in-Err-Bad.field-0-is)) in
    filled_bad _ _ _ c.requires n
