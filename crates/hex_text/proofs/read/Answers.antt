-- `hex::read` meets its contract.
use Rattle.hex_text.specs.Pairs.{bytes_of, read_of}
use borrow.Author.Tests.{le-leb, lt-leb, not-true, not-false}
use mathlib.Core.Path.{sym, ◌∙◌}
use Rattle.hex_text.proofs.read.Goals as goal

pub returns-then-not-is_pairs : goal.returns-then-not-is_pairs
unfolding bytes_of read_of
returns-then-not-is_pairs c =
    let e = sym c.is_pairs.ensures ∙ not-true _ c.if-not-is_pairs.true-raw in
    record {
      value = rw e;
      out_after = rw e;
    }

pub returns-then-out-n : goal.returns-then-out-n
unfolding bytes_of read_of
returns-then-out-n c =
    let e = sym c.is_pairs.ensures ∙ not-false _ c.if-not-is_pairs.false-raw in
    let f = lt-leb _ _ c.if-out-n.true in
    record {
      value = rw (e, f);
      out_after = rw (e, f);
    }

pub read_pairs-requires : goal.read_pairs-requires
read_pairs-requires c =
    record {
      s_value = sym c.is_pairs.ensures ∙ not-false _ c.if-not-is_pairs.false-raw;
      s_in_bounds = c.if-out-n.false;
    }

pub returns : goal.returns
unfolding bytes_of read_of
returns c =
    let e = sym c.is_pairs.ensures ∙ not-false _ c.if-not-is_pairs.false-raw in
    let f = le-leb _ _ c.if-out-n.false in
    record {
      value = rw (e, f);
      out_after = rw (e, f) c.read_pairs.ensures;
    }
