-- `hex_text::pid` meets its contract.
use Rattle.std.proofs.Common.{arith, ◌∙◌}
use Rattle.ascii.specs.Chars.{hex_some}
use Rattle.hex_text.specs.Laws.{pid_length, pid_first, pid_second, pid_both}
use Rattle.hex_text.proofs.pid.Goals as goal

pub returns-then-s-ne2 : goal.returns-then-s-ne2
returns-then-s-ne2 c = pid_length _ c.if-s-ne2.true

pub returns-in_err-high : goal.returns-in_err-high
returns-in_err-high c = c.from_residual.ensures ∙ pid_first _ c.if-s-ne2.false _ c.hex_value.ensures c.in_err-high.was

pub returns-in_err-low : goal.returns-in_err-low
returns-in_err-low c =
    c.from_residual-in_err-low.ensures
    ∙ pid_second _ c.if-s-ne2.false _ c.hex_value.ensures _ c.in_ok-high.was _ c.hex_value-2.ensures c.in_err-low.was

pub overflow_mul-result : goal.overflow_mul-result
overflow_mul-result c =
    let h = hex_some _ _ c.hex_value.ensures _ c.in_ok-high.was in
    let l = hex_some _ _ c.hex_value-2.ensures _ c.in_ok-low.was in
    omega arith

pub overflow_add-result : goal.overflow_add-result
overflow_add-result c =
    let h = hex_some _ _ c.hex_value.ensures _ c.in_ok-high.was in
    let l = hex_some _ _ c.hex_value-2.ensures _ c.in_ok-low.was in
    omega arith

pub returns : goal.returns
returns c = pid_both _ c.if-s-ne2.false _ c.hex_value.ensures _ c.in_ok-high.was _ _ c.hex_value-2.ensures c.in_ok-low.was
