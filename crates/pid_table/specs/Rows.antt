-- The manager's table as rows of numbers, as it is lent: what a row means, whatever numbers it has.
use Rattle.std.specs.Prelude.{None, Option, Some, Bool, true, false, not, List, [], ◌∷◌, map, ◌≡◌, ℕ, zero, suc, ◌%◌, ◌<◌, eqb, get_or, set, length, replicate}
use Rattle.std.proofs.Math.Path.{refl}
use Rattle.std.proofs.Common.{ap, arith}
use Rattle.std.proofs.lemmas.List.{length-map}
use Rattle.std.proofs.Math.ListN.{get_or-map}
use Rattle.std.specs.Option.{is_some, unwrap_or}
use mir.Val.{bool_byte}
use Rattle.base.specs.Choice.{pick}
use Rattle.base.specs.Each.{map_set}
use Rattle.config.specs.declared.PidPriority.{PidPriority}
use Rattle.config.specs.declared.PidPriority.TheVariants.{Fast, Slow}
use Rattle.pid_table.specs.Entry.{nobody}
use Rattle.pid_table.specs.declared.PidInfo.{PidInfo}

abbrev pub slow_in : PidPriority → ℕ
slow_in Fast = 0
slow_in Slow = 1

abbrev pub priority_in : ℕ → PidPriority
priority_in n = pick (eqb n 0) Fast Slow

-- A last time is two numbers: whether there is one, and which.
abbrev pub last_of : ℕ → ℕ → Option ℕ
last_of known time = pick (eqb known 0) None (Some time)

-- THE ENTRY that a row is. The count is one of 32 bits.
unfoldable pub info_of : List ℕ → PidInfo
info_of row = record {
  tracked = not (eqb (get_or row 0 0) 0);
  priority = priority_in (get_or row 1 0);
  pinned = not (eqb (get_or row 2 0) 0);
  count = get_or row 3 0 % 4294967296;
  waiter = last_of (get_or row 4 0) (get_or row 5 0);
  consumed = last_of (get_or row 6 0) (get_or row 7 0);
}

-- THE TABLE that the rows are.
unfoldable pub table_of : List (List ℕ) → List PidInfo
table_of rows = map info_of rows

bit_back : (b : Bool) → not (eqb (bool_byte b) 0) ≡ b
bit_back true = refl
bit_back false = refl

slow_back : (p : PidPriority) → priority_in (slow_in p) ≡ p
slow_back Fast = refl
slow_back Slow = refl

last_back : (l : Option ℕ) → last_of (bool_byte (is_some l)) (unwrap_or l 0) ≡ l
last_back None = refl
last_back (Some t) = refl

-- A row of an entry's numbers is that entry.
pub packed : (n : PidInfo) (a b d m e f g h : ℕ) → a ≡ bool_byte n.tracked → b ≡ slow_in n.priority → d ≡ bool_byte n.pinned → m ≡ n.count
    → e ≡ bool_byte (is_some n.waiter) → f ≡ unwrap_or n.waiter 0 → g ≡ bool_byte (is_some n.consumed) → h ≡ unwrap_or n.consumed 0 → n.count < 4294967296
    → info_of (a ∷ b ∷ d ∷ m ∷ e ∷ f ∷ g ∷ h ∷ []) ≡ n
unfolding info_of
packed n a b d m e f g h ea eb ed em ee ef eg eh k =
    let z : n.count % 4294967296 ≡ n.count = omega arith in
    rw (ea, eb, ed, em, ee, ef, eg, eh, bit_back n.tracked, slow_back n.priority, bit_back n.pinned, last_back n.waiter, last_back n.consumed, z)

-- ---- rows of which nothing but a test is wanted

module _ (row : List ℕ) where
  pub tracked_in : (info_of row).tracked ≡ not (eqb (get_or row 0 0) 0)
  unfolding info_of
  tracked_in = refl

  pub pinned_in : (info_of row).pinned ≡ not (eqb (get_or row 2 0) 0)
  unfolding info_of
  pinned_in = refl

  pub count_in : (info_of row).count ≡ get_or row 3 0 % 4294967296
  unfolding info_of
  count_in = refl

-- ---- the table

-- The row of a PID that is not in the table, and a table in which nothing is tracked.
abbrev pub no_row : List ℕ
no_row = replicate 8 0

pub row_absent : info_of no_row ≡ nobody
unfolding info_of
row_absent = refl

-- A place behind the table is no entry, as an empty row is none.
pub table_at : (rows : List (List ℕ)) (i : ℕ) → get_or (table_of rows) i nobody ≡ info_of (get_or rows i [])
unfolding table_of info_of
table_at rows i = get_or-map info_of rows i []

pub table_set : (rows : List (List ℕ)) (i : ℕ) (row : List ℕ) → table_of (set rows i row) ≡ set (table_of rows) i (info_of row)
unfolding table_of
table_set rows i row = map_set info_of rows i row

pub table_length : (rows : List (List ℕ)) → length (table_of rows) ≡ length rows
unfolding table_of
table_length rows = length-map rows info_of

pub table_absent : (n : ℕ) → table_of (replicate n no_row) ≡ replicate n nobody
unfolding table_of
table_absent zero = refl
table_absent (suc n) = rw row_absent (ap (λ (t : List PidInfo). nobody ∷ t) (table_absent n))
