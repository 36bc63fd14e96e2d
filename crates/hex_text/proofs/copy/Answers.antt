-- `hex::copy` meets its contract.
use Rattle.hex_text.specs.Pairs.{plain_of, copy_of}
use borrow.Author.Tests.{le-leb, lt-leb}
use lib.ListN.{length}
use native.Mathlib.Omega.{arith}
use Rattle.hex_text.proofs.copy.Goals as goal

pub returns-then-out-s : goal.returns-then-out-s
unfolding plain_of copy_of
returns-then-out-s c =
    let e = lt-leb _ _ c.if-out-s.true in
    record {
      value = rw e;
      out_after = rw e;
    }

pub returns : goal.returns
unfolding plain_of copy_of
returns c =
    let s = c.args in
    let e = le-leb (length s.s.now) (length s.out.now) (omega arith) in
    record {
      value = rw e;
      out_after = rw e (c.copy.ensures);
    }
