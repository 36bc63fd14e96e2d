-- `transcript::put` meets its contract.
use Rattle.transcript.specs.Lines.{text_of}
use Rattle.base.specs.Write.{over_lent}
use mathlib.Core.Path.{◌≡◌}
use native.Mathlib.Omega.{arith}
use lib.ListN.{length, length-take, length-drop}
use borrow.Author.Rules.{rules}
use Rattle.transcript.proofs.put.Goals as goal
use Rattle.transcript.proofs.put.Goals.{Start}

-- a text has room for nine bytes
nine : (c : Start) → length c.args.t.bytes ≡ 9
nine c = search rules

pub slice_bounds-bytes-end : goal.slice_bounds-bytes-end
slice_bounds-bytes-end c = omega (arith, nine (goal.at.slice_bounds-bytes-end c).Start)

pub slice_bounds-copy-end : goal.slice_bounds-copy-end
slice_bounds-copy-end c = let n = nine (goal.at.slice_bounds-copy-end c).Start in simp length-take (omega arith)

pub copy-requires : goal.copy-requires
copy-requires c =
    let n = nine (goal.at.copy-requires c).Start in simp (length-take, length-drop) (omega arith)

pub overflow_add-result : goal.overflow_add-result
overflow_add-result c = omega (arith, nine (goal.at.overflow_add-result c).Start)

pub returns : goal.returns
unfolding text_of
returns c =
    let n = nine (goal.at.returns c).Start in
    let e = c.copy.ensures in
    record {
      value = simp length-take (omega arith);
      out_after = over_lent c.args.out.now c.args.at _ _ (omega arith) e;
    }
