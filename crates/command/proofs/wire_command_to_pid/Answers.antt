-- `command::wire_command_to_pid` meets its contract: each return rewrites with the tests that led there.
use Rattle.std.proofs.Common.{arith}
use Rattle.ascii.specs.Chars.{hex_some}
use Rattle.command.specs.Laws.{pid_short, pid_begins, pid_high, pid_low, pid_both}
use Rattle.command.proofs.wire_command_to_pid.Goals as goal

pub returns-then-cmd-lt4 : goal.returns-then-cmd-lt4
returns-then-cmd-lt4 c = pid_short _ c.if-cmd-lt4.true

pub returns-then-not-starts_with : goal.returns-then-not-starts_with
returns-then-not-starts_with c = pid_begins _ c.if-cmd-lt4.false _ c.starts_with.ensures.value c.if-not-starts_with.true

pub returns-in_default : goal.returns-in_default
returns-in_default c =
    pid_high _ c.if-cmd-lt4.false _ c.starts_with.ensures.value c.if-not-starts_with.false _ c.hex_value.ensures c.in_default.is

pub returns-in_default-hex_value : goal.returns-in_default-hex_value
returns-in_default-hex_value c =
    pid_low _ c.if-cmd-lt4.false _ c.starts_with.ensures.value c.if-not-starts_with.false _ c.hex_value.ensures _ c.in-Some.is _ c.hex_value-2.ensures c.in_default-hex_value.is

pub overflow_mul-result : goal.overflow_mul-result
overflow_mul-result c =
    let h = hex_some _ _ c.hex_value.ensures _ c.in-Some.is in
    let l = hex_some _ _ c.hex_value-2.ensures _ c.in-Some-hex_value.is in
    omega arith

pub overflow_add-result : goal.overflow_add-result
overflow_add-result c =
    let h = hex_some _ _ c.hex_value.ensures _ c.in-Some.is in
    let l = hex_some _ _ c.hex_value-2.ensures _ c.in-Some-hex_value.is in
    omega arith

pub returns : goal.returns
returns c =
    pid_both _ c.if-cmd-lt4.false _ c.starts_with.ensures.value c.if-not-starts_with.false _ c.hex_value.ensures _ c.in-Some.is _ _ c.hex_value-2.ensures c.in-Some-hex_value.is
