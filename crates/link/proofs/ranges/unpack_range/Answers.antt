use borrow.Author.Tests.{eq-eqb, ne_eqb}
use Rattle.base.specs.Write.{over, over_copy}
use mathlib.Core.Path.{sym}
use mathlib.Core.List.{List, append-nil}
use mathlib.Core.Path.{◌≡◌, ◌∙◌}
use Prim.Native.Nat.{ℕ, ◌≤◌}
use native.Mathlib.Omega.{arith}
use lib.ListN.{length, take, drop, length-drop, drop_of_length-le}
use lib.Seq.{take_all, take-length}
use Rattle.reply.specs.Rows.{row_size}
use Rattle.link.specs.Ranges.{range_size, range_in}
use borrow.Author.Rules.{rules}
use Rattle.link.proofs.ranges.unpack_range.Goals as goal

-- A copy that fills what it is written into.
copied : (s d : List ℕ) → length d ≤ length s → over d 0 s ≡ s
copied s d h = sym (over_copy s d) ∙ rw (take-length s, drop_of_length-le d h, append-nil)

pub returns-then-row-eq0 : goal.returns-then-row-eq0
unfolding range_in
returns-then-row-eq0 c = rw (eq-eqb _ _ c.if-row-eq0.true)

pub returns : goal.returns
unfolding range_in
returns c =
    let row = c.args.row in
    let l : length row ≡ range_size = search rules in
    let n : length (drop 1 row) ≡ row_size = rw (length-drop) (omega arith) in
    let part = take row_size (drop 1 row) in
    let whole : part ≡ drop 1 row = take_all row_size (drop 1 row) (omega arith) in
    let m : length part ≡ row_size = rw (whole, n) in
    rw (ne_eqb _ _ c.if-row-eq0.false, c.unpack.ensures, c.copy.ensures ∙ copied part _ (omega arith), whole)
