-- `pid::data_length` meets its contract: the table's rule is a test at each of its 256 entries, which antt computes.
use mathlib.Core.Bool.{Bool, true, false}
use mathlib.Core.List.{List}
use mathlib.Core.Path.{◌≡◌, refl}
use Prim.Native.Nat.{ℕ, ◌<◌}
use lib.Dec.{eqb}
use lib.ListN.{get_or, length}
use borrow.Author.Tests.{ne_eqb, eqb-true}
use Rattle.base.specs.Choice.{pick, cases, false_true}
use Rattle.base.specs.Table.{every, at}
use Rattle.pid.specs.Lengths.{data_length_of, lookup, j1979}
use Rattle.std.proofs.Common.{Option, Some, None}
use borrow.Author.Rules.{rules}
use Rattle.pid.specs.declared.TheConstants.{MODE01_PID_DATA_LENGTHS}
use Rattle.pid.proofs.data_length.Goals as goal

-- what an entry of the table stands for
abbrev read : ℕ → Option ℕ
read x = pick (eqb x 0) None (Some x)

abbrev agrees : Option ℕ → ℕ → Bool
agrees (Some n) x = pick (eqb n 0) false (eqb x n)
agrees None x = eqb x 0

agreed : (d : Option ℕ) (x : ℕ) → agrees d x ≡ true → read x ≡ d
agreed (Some n) x e =
    cases _ (eqb n 0)
    (λ b. false_true (rw b at e))
    (λ b. rw (eqb-true x n (rw b at e), b))
agreed None x e = rw e

right : ℕ → ℕ → Bool
right p x = agrees (data_length_of p) x

module _ (table : List ℕ) (p : ℕ) where
  rule : every right 0 table ≡ true → p < length table → read (get_or table p 0) ≡ data_length_of p
  unfolding right
  rule e h = agreed (data_length_of p) (get_or table p 0) (at right table e p h)

  absent : get_or table p 0 ≡ 0 → every right 0 table ≡ true → p < length table → None ≡ data_length_of p
  absent z e h = rw z at (rule e h)

  present : (get_or table p 0 ≡ 0 → ⊥) → every right 0 table ≡ true → p < length table → Some (get_or table p 0) ≡ data_length_of p
  present z e h = rw (ne_eqb _ _ z) at (rule e h)

pub returns-then-length-eq0 : goal.returns-then-length-eq0
unfolding right data_length_of lookup j1979
returns-then-length-eq0 c = absent MODE01_PID_DATA_LENGTHS c.args.pid c.if-length-eq0.true refl (search rules)

pub returns : goal.returns
unfolding right data_length_of lookup j1979
returns c = present MODE01_PID_DATA_LENGTHS c.args.pid c.if-length-eq0.false refl (search rules)
