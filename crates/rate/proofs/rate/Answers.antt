-- `rate::rate` meets its contract: the capped count is exact in f32.
use Rattle.std.proofs.Common.{arith}
use Rattle.rate.specs.Rate.{rate_of}
use Rattle.rate.specs.Code.{cast_exact}
use Rattle.rate.proofs.rate.Goals as goal

pub int_to_float-whole : goal.int_to_float-whole
int_to_float-whole c = cast_exact c.counted-whole.result (omega arith)

pub returns : goal.returns
unfolding rate_of
returns c = rw (c.seconds.ensures, c.lasting.ensures, c.counted-whole.ensures)
