-- `lines::keep` meets its contract.
use Rattle.lines.specs.Laws.{kept_part, kept_all, bytes_part, bytes_all}
use Rattle.base.specs.Write.{over_lent}
use lib.Seq.{length-take-le}
use lib.ListN.{length-take, length-drop}
use mathlib.Core.Path.{sym, ◌∙◌}
use native.Mathlib.Omega.{arith}
use Rattle.lines.proofs.keep.Goals as goal

pub slice_bounds-copy-end : goal.slice_bounds-copy-end
slice_bounds-copy-end c = sym (length-take-le _ _ (omega arith))

pub copy-requires : goal.copy-requires
copy-requires c = simp (length-take, length-drop) (omega arith)

pub returns-then-room-s : goal.returns-then-room-s
returns-then-room-s c =
    let s = c.args in record {
      value = sym (kept_part s.line.now s.r s.s.now _ c.min-at.ensures (omega arith));
      line_after = over_lent s.line.now c.min-at.result _ _ (omega arith) c.copy.ensures ∙ sym (bytes_part s.line.now s.r s.s.now _ c.min-at.ensures);
    }

pub returns : goal.returns
returns c =
    let s = c.args in record {
      value = sym (kept_all s.line.now s.r s.s.now _ c.min-at.ensures (omega arith));
      line_after = over_lent s.line.now c.min-at.result _ _ (omega arith) c.copy-2.ensures ∙ sym (bytes_all s.line.now s.r s.s.now _ c.min-at.ensures (omega arith));
    }
