-- Lists as text: history-format.md, "parted by commas", "`-` stands for none".
use Rattle.std.specs.Prelude.{Bool, true, false, List, [], ◌∷◌, ◌++◌, map, ◌≡◌, ℕ, ◌+◌, ◌<◌, ◌≤◌, length, get_or, drop}
use Rattle.std.proofs.Common.{arith, drop_of_length-le, drop-cons}
use Rattle.std.proofs.Math.Numerals.{add-one}
use Rattle.std.proofs.Math.ListN.{length-map, get_or-map}
use Rattle.base.specs.Letters.{letters}
use Rattle.numeral.specs.Decimal.{decimal_text}
use Rattle.writing_pairs.specs.Pairs.{pid_text}

-- What stands before a text of a list that has some already; what stands for a list that turns out to have none.
unfoldable pub comma_text : Bool → List ℕ
comma_text true = letters ","
comma_text false = []

unfoldable pub none_text : Bool → List ℕ
none_text true = []
none_text false = letters "-"

-- Texts parted by commas, behind others or not; `-` for none at all.
unfoldable pub parted : Bool → List (List ℕ) → List ℕ
parted more [] = none_text more
parted more (t ∷ ts) = comma_text more ++ (t ++ parted true ts)

-- PIDs as text, and numbers.
unfoldable pub pids_text : List ℕ → List ℕ
pids_text ps = parted false (map pid_text ps)

unfoldable pub numbers_text : List ℕ → List ℕ
numbers_text ns = parted false (map decimal_text ns)

-- A list from the front: what is left of it at place i.
module _ (ts : List (List ℕ)) (more : Bool) (i : ℕ) where
  pub parted_end : length ts ≤ i → parted more (drop i ts) ≡ none_text more
  unfolding parted
  parted_end h = rw (drop_of_length-le ts h)

-- The same where each text is made of an element.
module _ {A : Type 0} (f : A → List ℕ) (xs : List A) (more : Bool) (i : ℕ) where
  pub each_next : (d : A) → i < length xs → parted more (drop i (map f xs)) ≡ comma_text more ++ (f (get_or xs i d) ++ parted true (drop (i + 1) (map f xs)))
  unfolding parted
  each_next d h = let n = length-map xs f in rw (drop-cons (map f xs) i (f d) (omega arith), get_or-map f xs i d, add-one i)

  pub each_end : length xs ≤ i → parted more (drop i (map f xs)) ≡ none_text more
  each_end h = let n = length-map xs f in parted_end (map f xs) more i (omega arith)
