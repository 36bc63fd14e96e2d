use mathlib.Core.Path.{◌≡◌, refl}
use native.Mathlib.Omega.{arith}
use lib.ListN.{length}
use Rattle.reply.specs.Rows.{packed}
use Rattle.reply.specs.Rules.{max_lines, max_bytes}
use borrow.Author.Rules.{rules}
use Rattle.reply.proofs.rows.pack.Goals as goal
use Rattle.reply.proofs.rows.pack.Goals.{Start}

measured : (c : Start) → length c.args.reply.lengths ≡ max_lines
measured c = search rules

whole : (c : Start) → length c.args.reply.bytes ≡ max_bytes
whole c = search rules

-- src/rows.rt:33:9
pub put-measured-requires : goal.put-measured-requires
put-measured-requires c =
    let l = measured (goal.at.put-measured-requires c).Start in
    omega arith

-- src/rows.rt:34:5
pub put-requires : goal.put-requires
put-requires c =
    let l = whole (goal.at.put-requires c).Start in
    omega arith

-- src/rows.rt:26:1
pub returns : goal.returns
returns c =
    rw (c.put.ensures, c.put-measured.ensures) (packed c.args.reply _ (measured (goal.at.returns c).Start) (whole (goal.at.returns c).Start) refl)
