-- `rate::hit_rate` meets its contract, by the two cases of the definition: no request at all, and some. Both capped numbers are exact in f32.
use Rattle.std.proofs.Common.{◌≡◌, ◌+◌, min, sym, ap, ◌∙◌, arith}
use lib.Ieee.{Float, binary32, mul, div}
use Rattle.rate.specs.Rate.{f32, most_counted}
use Rattle.rate.specs.Code.{literal_0, literal_100, cast_exact, hit_none, hit_some}
use Rattle.rate.proofs.hit_rate.Goals as goal
use Rattle.rate.proofs.hit_rate.Goals.{After-counted-total}

-- The code caps a sum of capped numbers.
total : (c : After-counted-total) → c.counted-total.result ≡ min (c.args.hits + c.args.misses) most_counted
total c = omega arith

pub returns-then-total-eq0 : goal.returns-then-total-eq0
returns-then-total-eq0 c =
    literal_0 ∙ sym (hit_none c.args.hits c.args.misses c.counted-found.result c.counted-total.result c.counted-found.ensures (total (goal.at.returns-then-total-eq0 c).After-counted-total) c.if-total-eq0.true)

pub int_to_float-result : goal.int_to_float-result
int_to_float-result c = cast_exact c.counted-found.result (omega arith)

pub int_to_float-result-2 : goal.int_to_float-result-2
int_to_float-result-2 c = cast_exact c.counted-total.result (omega arith)

pub returns : goal.returns
returns c =
    ap (λ (z : Float). div binary32 (mul binary32 z (f32 c.counted-found.result)) (f32 c.counted-total.result)) literal_100
    ∙ sym (hit_some c.args.hits c.args.misses c.counted-found.result c.counted-total.result c.counted-found.ensures (total (goal.at.returns c).After-counted-total) c.if-total-eq0.false)
