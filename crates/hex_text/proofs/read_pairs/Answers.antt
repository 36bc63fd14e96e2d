-- `hex_text::read_pairs` meets its contract. The invariant: the first i bytes are read.
use Rattle.std.proofs.Common.{arith, ◌*◌, ◌+◌, sym, ap, ◌∙◌, take_all}
use Rattle.hex_text.specs.Laws.{pairs_digit, pairs_length, pairs_at, over_next}
use Rattle.hex_text.specs.Pairs.{pairs, pair_of}
use Rattle.base.specs.Write.{over, over_none}
use Rattle.hex_text.proofs.read_pairs.Goals as goal

pub loop-i-init : goal.loop-i-init
loop-i-init c = sym (over_none _ 0)

pub overflow_mul-out : goal.overflow_mul-out
overflow_mul-out c =
    let h = pairs_digit c.args.s.now (2 * c.loop-i.i) (omega arith) c.requires.s_value in
    let e = c.digit_value-high.ensures in
    omega arith

pub overflow_add-out : goal.overflow_add-out
overflow_add-out c =
    let h = pairs_digit c.args.s.now (2 * c.loop-i.i) (omega arith) c.requires.s_value in
    let l = pairs_digit c.args.s.now (2 * c.loop-i.i + 1) (omega arith) c.requires.s_value in
    let e = c.digit_value-high.ensures in
    let f = c.digit_value-low.ensures in
    omega arith

pub loop-i-preserved : goal.loop-i-preserved
unfolding pair_of
loop-i-preserved c =
    let n = pairs_length c.args.s.now in
    let e = over_next c.args.out.now (pairs c.args.s.now) c.loop-i.i (omega arith) (omega arith) in
    let p = pairs_at c.args.s.now c.loop-i.i (omega arith) in
    rw (c.digit_value-high.ensures, c.digit_value-low.ensures, c.loop-i.invariant) (rw p at e)

pub returns : goal.returns
returns c =
    let n = pairs_length c.args.s.now in
    c.loop-i.invariant ∙ ap (over c.args.out.now 0) (take_all c.loop-i.i (pairs c.args.s.now) (omega arith))
