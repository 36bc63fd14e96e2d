-- `numeral::put` meets its contract.
use Rattle.numeral.specs.Decimal.{decimal_text}
use Rattle.text.specs.Put.{put_of, put_end}
use lib.Seq.{take_all}
use lib.ListN.{take, drop, length-drop}
use Prim.Native.Nat.{◌-◌}
use mathlib.Core.Path.{◌≡◌, ap, ◌∙◌}
use native.Mathlib.Omega.{arith}
use Rattle.numeral.proofs.put.Goals as goal

pub returns : goal.returns
returns c =
    let a = c.args in
    let d = c.spell-start.new.digits in
    let n = c.spell-start.auto.digits in
    let w : take (20 - c.spell-start.result) (drop c.spell-start.result d) ≡ decimal_text a.n
    = take_all (20 - c.spell-start.result) (drop c.spell-start.result d) (omega (arith, length-drop c.spell-start.result d)) ∙ c.spell-start.ensures.digits_after in
    let e = c.put.ensures in
    record {
      value = e.value ∙ ap (put_end a.out.now a.at) w;
      out_after = e.out_after ∙ ap (put_of a.out.now a.at) w;
    }
