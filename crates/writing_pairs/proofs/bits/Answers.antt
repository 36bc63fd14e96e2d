-- `writing_pairs::bits` meets its contract: a float that differs from itself is a NaN.
use Rattle.writing_pairs.specs.Bits.{bits_nan, no_nan}
use Rattle.writing_pairs.proofs.bits.Goals as goal

pub returns-then-x : goal.returns-then-x
returns-then-x c = bits_nan _ c.if-x.true

pub float_to_bits-result : goal.float_to_bits-result
float_to_bits-result c = no_nan _ c.if-x.false
