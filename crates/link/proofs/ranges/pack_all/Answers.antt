use mathlib.Core.Path.{◌≡◌, refl, sym, ap, ◌∙◌}
use native.Mathlib.Omega.{arith}
use lib.ListN.{length, length-set}
use borrow.Author.Rules.{rules}
use Rattle.base.specs.Each.{filled_more, filled_all}
use Rattle.link.specs.Ranges.{range_in, ranges_of, range_set, ranges_length, blank_length, behind_in, replies_in, replies_of, behind_set, behind_length, replies_at, replies_length}
use Rattle.reply.specs.Rules.{empty_reply, no_range}
use Rattle.link.proofs.ranges.pack_all.Goals as goal

pub loop-i-init : goal.loop-i-init
loop-i-init c = (ap length c.blank-rows.ensures ∙ blank_length, refl, refl)

pub loop-i-preserved : goal.loop-i-preserved
loop-i-preserved c =
    let ranges = c.args.ranges in
    let rows = c.loop-i.rows in
    let i = c.loop-i.i in
    let l : length ranges ≡ 8 = search rules in
    let long = c.loop-i.invariant.0 in
    let n = ranges_length rows in
    let m = behind_length rows in
    let k = replies_length ranges in (
      simp length-set long,
      rw (range_set rows i c.pack_range.result) (filled_more (ranges_of rows) ranges i (range_in c.pack_range.result) no_range (omega arith) (omega arith) c.pack_range.ensures.value c.loop-i.invariant.1),
      rw (behind_set rows i c.pack_range.result) (filled_more (replies_in rows) (replies_of ranges) i (behind_in c.pack_range.result) empty_reply (omega arith) (omega arith) (c.pack_range.ensures.behind ∙ sym (replies_at ranges i)) c.loop-i.invariant.2),
    )

pub returns : goal.returns
returns c =
    let ranges = c.args.ranges in
    let rows = c.loop-i.rows in
    let l : length ranges ≡ 8 = search rules in
    let n = ranges_length rows in
    let m = behind_length rows in
    let k = replies_length ranges in
    record {
      value = filled_all (ranges_of rows) ranges c.loop-i.i (omega arith) (omega arith) c.loop-i.invariant.1;
      behind = filled_all (replies_in rows) (replies_of ranges) c.loop-i.i (omega arith) (omega arith) c.loop-i.invariant.2;
    }
