-- `ascii::hex_value` meets its contract.
use Rattle.std.proofs.Common.{lt-ltb}
use Rattle.std.proofs.lemmas.Bool.{le-ltb}
use Rattle.ascii.specs.Chars.{hex_of}
use Rattle.ascii.proofs.hex_value.Goals as goal

pub returns-then-value-lt16 : goal.returns-then-value-lt16
unfolding hex_of
returns-then-value-lt16 c = let e = c.digit_value-value.ensures in rw (← e, lt-ltb _ _ c.if-value-lt16.true)

pub returns-else-value-lt16 : goal.returns-else-value-lt16
unfolding hex_of
returns-else-value-lt16 c = let e = c.digit_value-value.ensures in rw (← e, le-ltb _ _ c.if-value-lt16.false)
