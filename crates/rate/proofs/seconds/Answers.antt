-- `rate::seconds` meets its contract: whole seconds up to 16,777,215 are exact in f32, and each step is the definition's.
use Rattle.std.proofs.Common.{◌*◌, ◌/◌, ◌%◌, ap, arith}
use lib.Ieee.{Float, binary32, add, div}
use Rattle.rate.specs.Rate.{f32, seconds_of}
use Rattle.rate.specs.Code.{literal_1e9, cast_exact}
use Rattle.rate.proofs.seconds.Goals as goal

pub int_to_float-whole : goal.int_to_float-whole
int_to_float-whole c = cast_exact _ (omega arith)

pub returns : goal.returns
unfolding seconds_of
returns c =
    let e = c.args.elapsed in
    rw c.nearest_u32_to_f32.ensures (ap (λ (z : Float). add binary32 (f32 (e / 1000)) (div binary32 (f32 (e % 1000 * 1000000)) z)) literal_1e9)
