use mathlib.Core.Path.{◌≡◌, refl, sym, ap, ◌∙◌}
use native.Mathlib.Omega.{arith}
use lib.ListN.{length, length-set}
use borrow.Author.Rules.{rules}
use Rattle.base.specs.Each.{filled_more, filled_all}
use Rattle.link.specs.Ranges.{ranges_of, range_at, ranges_length, none_length}
use Rattle.reply.specs.Rules.{no_range}
use Rattle.link.proofs.ranges.unpack_all.Goals as goal

pub loop-i-init : goal.loop-i-init
loop-i-init c = (ap length c.no_ranges-ranges.ensures ∙ none_length, refl)

pub loop-i-preserved : goal.loop-i-preserved
loop-i-preserved c =
    let rows = c.args.rows in
    let ranges = c.loop-i.ranges in
    let i = c.loop-i.i in
    let l : length rows ≡ 8 = search rules in
    let n = ranges_length rows in
    let long = c.loop-i.invariant.0 in (
      simp length-set long,
      filled_more ranges (ranges_of rows) i c.unpack_range.result no_range (omega arith) (omega arith) (c.unpack_range.ensures ∙ sym (range_at rows i)) c.loop-i.invariant.1,
    )

pub returns : goal.returns
returns c =
    let rows = c.args.rows in
    let l : length rows ≡ 8 = search rules in
    let n = ranges_length rows in
    filled_all c.loop-i.ranges (ranges_of rows) c.loop-i.i (omega arith) (omega arith) c.loop-i.invariant.1
