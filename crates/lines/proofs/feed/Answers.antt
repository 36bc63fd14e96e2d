-- `lines::feed` meets its contract.
use Rattle.lines.specs.Reading.{fed_of}
use Rattle.text.specs.Cut.{head_of, place_le}
use borrow.Author.Tests.{lt-ltb, le-ltb}
use lib.Seq.{length-take-le}
use mathlib.Core.Path.{sym}
use Rattle.lines.proofs.feed.Goals as goal

pub slice_bounds-keep-end : goal.slice_bounds-keep-end
slice_bounds-keep-end c = sym (length-take-le _ _ (rw c.until-n.ensures (place_le _ _)))

pub returns-then-n-input : goal.returns-then-n-input
unfolding fed_of head_of
returns-then-n-input c =
    let n = c.until-n.ensures in
    let k = c.keep-reading.ensures in
    let e = lt-ltb _ _ (rw n at c.if-n-input.true) in
    record {
      value = rw (k.value, n, e);
      line_after = rw (k.line_after, n);
    }

pub returns : goal.returns
unfolding fed_of head_of
returns c =
    let n = c.until-n.ensures in
    let k = c.keep-reading.ensures in
    let e = le-ltb _ _ (rw n at c.if-n-input.false) in
    record {
      value = rw (k.value, n, e);
      line_after = rw (k.line_after, n);
    }
