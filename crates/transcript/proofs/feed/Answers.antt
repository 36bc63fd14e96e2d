-- `transcript::feed` meets its contract. The invariant: the first i bytes of the input are fed.
use Rattle.transcript.specs.Laws.{filled_none, filled_room, filled_next}
use Rattle.transcript.specs.Lines.{fed_of, usable, stepped_of}
use Rattle.std.proofs.Common.{rules, min, length, ◌/◌}
use mathlib.Core.Path.{◌≡◌, refl, ◌∙◌}
use lib.Seq.{length-take-le}
use native.Mathlib.Omega.{arith}
use Rattle.transcript.proofs.feed.Goals as goal

pub loop-i-init : goal.loop-i-init
loop-i-init c = (refl, filled_none _ _ _)

pub step_at-s-requires : goal.step_at-s-requires
step_at-s-requires c =
    let n : c.min-n.result ≡ min (length c.args.input.now) (length c.args.out.now / 9) = search rules in
    let h = c.loop-i-test.true in
    filled_room _ _ _ c.loop-i.i _ _ _ c.loop-i.invariant.1 (omega arith) (omega arith)

pub loop-i-preserved : goal.loop-i-preserved
unfolding stepped_of
loop-i-preserved c =
    let n : c.min-n.result ≡ min (length c.args.input.now) (length c.args.out.now / 9) = search rules in
    let h = c.loop-i-test.true in
    let s = c.step_at-s in
    (s.auto.out ∙ c.loop-i.invariant.0, rw (s.ensures.value, s.ensures.out_after) (filled_next _ _ _ c.loop-i.i _ _ _ c.loop-i.invariant.1 (omega arith) (omega arith)))

pub returns : goal.returns
unfolding fed_of usable
returns c =
    let n : c.min-n.result ≡ min (length c.args.input.now) (length c.args.out.now / 9) = search rules in
    let f = c.loop-i.invariant.1 in
    let h = c.loop-i-test.false in
    let e : c.loop-i.i ≡ c.min-n.result = omega arith in
    let u = length-take-le c.min-n.result c.args.input.now (omega arith) in
    record {
      value = rw (f.line_is, f.at_is, e, ← n, u);
      out_after = rw (f.out_is, e, ← n);
    }
