-- `transcript::feed_behind` meets its contract. The invariant: the first i bytes of the input are fed.
use Rattle.transcript.specs.Laws.{behind_none, behind_room, behind_next}
use Rattle.transcript.specs.Lines.{used_of, usable}
use Rattle.std.proofs.Common.{rules, min, length, ◌/◌}
use mathlib.Core.Path.{◌≡◌}
use lib.Seq.{length-take-le}
use native.Mathlib.Omega.{arith}
use Rattle.transcript.proofs.feed_behind.Goals as goal

pub loop-i-init : goal.loop-i-init
loop-i-init g c = behind_none _ _ _

pub step-current-requires : goal.step-current-requires
step-current-requires g c =
    let r = c.room.ensures.room in
    let n : c.min-n.result ≡ min (length c.args.input.now) (c.room.result / 9) = search rules in
    let h = c.loop-i-test.true in
    (search rules, behind_room _ _ _ c.loop-i.i _ _ c.loop-i.invariant _ (omega arith) c.room.ensures.within (omega arith))

pub loop-i-preserved : goal.loop-i-preserved
loop-i-preserved g c =
    let n : c.min-n.result ≡ min (length c.args.input.now) (c.room.result / 9) = search rules in
    let h = c.loop-i-test.true in
    let s = c.step-current in
    rw (s.ensures.value, s.ensures.out_after) (behind_next _ _ _ c.loop-i.i _ _ c.loop-i.invariant (omega arith))

pub returns : goal.returns
unfolding used_of usable
returns g c =
    let n : c.min-n.result ≡ min (length c.args.input.now) (c.room.result / 9) = search rules in
    let f = c.loop-i.invariant in
    let h = c.loop-i-test.false in
    let e : c.loop-i.i ≡ c.min-n.result = omega arith in
    let u = length-take-le c.min-n.result c.args.input.now (omega arith) in
    record {
      value = rw (f.line_is, e, ← c.room.ensures.room, ← n, u);
      out_after = rw (f.out_is, e, ← c.room.ensures.room, ← n);
    }
