-- `numeral::spell` meets its contract. The invariant: the text is what is left of it in front of what is written.
use Rattle.numeral.specs.Laws.{digits_last, digits_next}
use Rattle.numeral.specs.Decimal.{digits_onto, decimal_text}
use lib.ListN.{length-set, drop_of_length-le}
use Prim.Native.Nat.{◌-◌, ◌+◌}
use mathlib.Core.Path.{◌≡◌, sym, ◌∙◌}
use native.Mathlib.Omega.{arith}
use Rattle.numeral.proofs.spell.Goals as goal

pub loop-i-init : goal.loop-i-init
unfolding decimal_text
loop-i-init c = (omega arith, c.requires, rw (drop_of_length-le c.args.digits.now {i = 20} (omega arith)))

pub returns-then-left-eq0 : goal.returns-then-left-eq0
returns-then-left-eq0 c =
    let z : c.loop-i.i - 1 + 1 ≡ c.loop-i.i = omega arith in
    let e = rw z at (digits_last c.loop-i.left (c.loop-i.i - 1) c.loop-i.digits (omega arith) c.if-left-eq0.true) in
    record {
      upper_bound = omega arith;
      digits_after = sym (c.loop-i.invariant.2 ∙ e);
    }

pub loop-i-preserved : goal.loop-i-preserved
loop-i-preserved c =
    let z : c.loop-i.i - 1 + 1 ≡ c.loop-i.i = omega arith in
    let e = rw z at (digits_next c.loop-i.left (c.loop-i.i - 1) c.loop-i.digits (omega arith) c.if-left-eq0.false) in
    (omega arith, simp length-set (omega arith), c.loop-i.invariant.2 ∙ e)

pub returns : goal.returns
unfolding digits_onto
returns c =
    let z : c.loop-i.i ≡ 0 = omega arith in
    record {
      upper_bound = omega arith;
      digits_after = rw z (sym (rw z at c.loop-i.invariant.2));
    }
