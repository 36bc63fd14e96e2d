-- `text::put` meets its contract.
use Prim.Native.Nat.{◌+◌}
use lib.ListN.{length}
use Rattle.text.specs.Put.{put_of, put_end, put_full, end_full}
use Rattle.base.specs.Write.{over_lent}
use borrow.Author.Tests.{le-leb}
use mathlib.Core.Path.{sym}
use native.Mathlib.Omega.{arith}
use Rattle.text.proofs.put.Goals as goal

pub returns-then-out-at : goal.returns-then-out-at
returns-then-out-at c =
    record {
      value = sym (end_full _ _ _ (omega arith));
      out_after = sym (put_full _ _ _ (omega arith));
    }

pub returns-then-out-at-2 : goal.returns-then-out-at-2
returns-then-out-at-2 c =
    record {
      value = sym (end_full _ _ _ (omega arith));
      out_after = sym (put_full _ _ _ (omega arith));
    }

pub returns : goal.returns
unfolding put_of put_end
returns c =
    let t = le-leb (c.args.at + length c.args.s.now) (length c.args.out.now) (omega arith) in
    record {
      value = rw t;
      out_after = rw t (over_lent c.args.out.now c.args.at _ _ (omega arith) c.copy.ensures);
    }
