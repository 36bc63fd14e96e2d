-- How long texts are at most, so that a caller can lend enough memory for them.
use Rattle.std.specs.Prelude.{Bool, true, false, ℕ, suc, ◌+◌, ◌*◌, ◌≤◌, length}
use mathlib.Core.List.{List, [], ◌∷◌, map}
use Rattle.std.proofs.Common.{suc-mul, arith, length-append}
use Rattle.numeral.specs.Decimal.{decimal_text}
use Rattle.writing.specs.Number.{decimal_short}
use Rattle.writing_pairs.specs.Pairs.{pid_text}
use Rattle.writing_pairs.specs.Short.{pid_length}
use Rattle.writing_lists.specs.Parted.{comma_text, none_text, parted, pids_text, numbers_text}

pub comma_short : (b : Bool) → length (comma_text b) ≤ 1
unfolding comma_text
comma_short true = omega arith
comma_short false = omega arith

pub none_short : (b : Bool) → length (none_text b) ≤ 1
unfolding none_text
none_short true = omega arith
none_short false = omega arith

-- Texts of at most k bytes each, parted by commas.
module _ {A : Type 0} (f : A → List ℕ) (k : ℕ) (short : (x : A) → length (f x) ≤ k) where
  pub each_short : (xs : List A) (more : Bool) → length (parted more (map f xs)) ≤ 1 + length xs * suc k
  unfolding parted
  each_short [] more = omega (arith, none_short more)
  each_short (x ∷ xs) more =
      simp (length-append, suc-mul) (omega (arith, comma_short more, short x, each_short xs true))

pub pids_short : (ps : List ℕ) → length (pids_text ps) ≤ 1 + length ps * 3
unfolding pids_text
pids_short ps = each_short pid_text 2 (λ p. omega (arith, pid_length p)) ps false

pub numbers_short : (ns : List ℕ) → length (numbers_text ns) ≤ 1 + length ns * 21
unfolding numbers_text
numbers_short ns = each_short decimal_text 20 decimal_short ns false
