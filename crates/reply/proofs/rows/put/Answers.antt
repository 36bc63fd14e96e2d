use mathlib.Core.List.{List, ◌++◌}
use mathlib.Core.Path.{◌≡◌}
use Prim.Native.Nat.{ℕ, ◌-◌, ◌≤◌}
use native.Mathlib.Omega.{arith}
use lib.ListN.{length, take, drop}
use Rattle.base.specs.Write.{over, over_lent}
use Rattle.reply.specs.Rows.{row_size}
use borrow.Author.Rules.{rules}
use Rattle.reply.proofs.rows.put.Goals as goal

-- A text written through a part of an array, whose length is its type's.
lent : (d : List ℕ) (at n : ℕ) (s p : List ℕ) → length d ≡ n → at ≤ n → p ≡ over (take (n - at) (drop at d)) 0 s
    → take at d ++ (p ++ drop (n - at) (drop at d)) ≡ over d at s
lent d at n s p l h e = rw (← l) (over_lent d at s p (omega arith) (rw l e))

-- src/rows.rt:17:1
pub returns : goal.returns
returns c =
    let a = c.args in
    let l : length a.row ≡ row_size = search rules in
    lent a.row a.at row_size a.text.now _ l (omega arith) c.copy.ensures
