use mathlib.Core.List.{List, append-nil}
use mathlib.Core.Path.{◌≡◌, sym, ◌∙◌}
use Rattle.base.specs.Write.{over, over_copy}
use Prim.Native.Nat.{ℕ, ◌+◌, ◌≤◌}
use native.Mathlib.Omega.{arith}
use lib.ListN.{length, take, drop, length-take, length-drop, drop_of_length-le}
use lib.Seq.{take-length}
use Rattle.reply.specs.Rows.{row_size, reply_in}
use Rattle.reply.specs.Rules.{max_lines, max_bytes}
use borrow.Author.Rules.{rules}
use Rattle.reply.proofs.rows.unpack.Goals as goal

-- A copy that fills what it is written into.
copied : (s d : List ℕ) → length d ≤ length s → over d 0 s ≡ s
copied s d h = sym (over_copy s d) ∙ rw (take-length s, drop_of_length-le d h, append-nil)

-- src/rows.rt:38:1
pub returns : goal.returns
unfolding reply_in
returns c =
    let row = c.args.row in
    let l : length row ≡ row_size = search rules in
    let n : length (take max_lines (drop 1 row)) ≡ max_lines = rw (length-take, length-drop) (omega arith) in
    let m : length (take max_bytes (drop (1 + max_lines) row)) ≡ max_bytes = rw (length-take, length-drop) (omega arith) in
    rw (
      c.copy.ensures ∙ copied (take max_lines (drop 1 row)) _ (omega arith),
      c.copy-2.ensures ∙ copied (take max_bytes (drop (1 + max_lines) row)) _ (omega arith),
    )
