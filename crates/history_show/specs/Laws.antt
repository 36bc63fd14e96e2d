-- Laws of the definitions of `Texts`.
use Rattle.std.specs.Prelude.{◌≡◌, ℕ, suc, ◌+◌, ◌-◌, ◌%◌, ◌<◌, ◌≤◌, Bool, true, false, not, ◌||◌, List, [], ◌++◌, map, length, get_or, drop, ◌==◌, ◌≢◌, slice_index, slice_index_or}
use Rattle.std.proofs.Common.{append_assoc, ap, sym, ◌∙◌, drop_of_length-le, drop-cons, eq-eqb, ne_eqb}
use Rattle.std.specs.Prelude.{refl}
use native.Mathlib.Omega.{arith}
use Rattle.std.proofs.Math.Numerals.{add-one}
use Rattle.base.specs.Choice.{cases}
use Rattle.control.specs.declared.DongleMessage.{DongleMessage}
use Rattle.control_line.specs.Ring.{from, unused}
use Rattle.control_line.specs.Rows.{message_in, slots_of, read_at}
use Rattle.pid_table.specs.Entry.{nobody}
use Rattle.pid_table.specs.Rows.{info_of, table_of, tracked_in, table_at, table_length}
use Rattle.pid_table.specs.declared.PidInfo.{PidInfo}
use Rattle.writing_lists.specs.Parted.{parted, comma_text, none_text}
use Rattle.history_show.specs.Texts.{entry_text, tracked_from, message_text, added_text}

module _ (more : Bool) (p : ℕ) (i : PidInfo) where
  pub added_some : i.tracked ≡ true → added_text more p i ≡ comma_text more ++ entry_text p i
  unfolding added_text
  added_some e = rw e

  pub added_none : i.tracked ≡ false → added_text more p i ≡ []
  unfolding added_text
  added_none e = rw e

or_true : (b : Bool) → (b || true) ≡ true
or_true true = refl
or_true false = refl

or_false : (b : Bool) → (b || false) ≡ b
or_false true = refl
or_false false = refl

-- A table from the front: what is left of it at place i.
module _ (table : List PidInfo) (more : Bool) (i : ℕ) (d : PidInfo) where
  table_next : i < length table
      → parted more (tracked_from i (drop i table)) ≡ added_text more i (slice_index_or table i d) ++ parted (more || (get_or table i d).tracked) (tracked_from (i + 1) (drop (i + 1) table))
  unfolding tracked_from added_text parted
  table_next h =
      cases _ (get_or table i d).tracked
      (λ e. rw (drop-cons table i d h, e, or_true more, add-one i) (sym (append_assoc (comma_text more) _ _)))
      (λ e. rw (drop-cons table i d h, e, or_false more, add-one i))

  table_end : length table ≤ i → parted more (tracked_from i (drop i table)) ≡ none_text more
  unfolding tracked_from parted
  table_end h = rw (drop_of_length-le table h)

-- The same over the rows that the table is lent as.
pub row_tracked : (row : List ℕ) → (slice_index row 0 ≢ 0) → (info_of row).tracked ≡ true
row_tracked row h = tracked_in row ∙ ap not (ne_eqb (slice_index row 0) 0 h)

pub row_absent : (row : List ℕ) → slice_index row 0 ≡ 0 → (info_of row).tracked ≡ false
row_absent row e = tracked_in row ∙ ap not (eq-eqb (slice_index row 0) 0 e)

module _ (rows : List (List ℕ)) (more : Bool) (i : ℕ) where
  pub rows_next : i < length rows
      → parted more (tracked_from i (drop i (table_of rows)))
      ≡ added_text more i (info_of (slice_index_or rows i [])) ++ parted (more || not (slice_index (slice_index_or rows i []) 0 == 0)) (tracked_from (i + 1) (drop (i + 1) (table_of rows)))
  rows_next h =
      let n = table_length rows in
      rw (sym (tracked_in (slice_index_or rows i [])), sym (table_at rows i)) (table_next (table_of rows) more i nobody (omega arith))

  pub rows_end : length rows ≤ i → parted more (tracked_from i (drop i (table_of rows))) ≡ none_text more
  rows_end h = let n = table_length rows in table_end (table_of rows) more i nobody (omega arith)

-- The control line from the front.
module _ (slots : List DongleMessage) (head n : ℕ) (more : Bool) (i : ℕ) where
  line_next : i < n
      → parted more (map message_text (from slots (head + i) (n - i)))
      ≡ comma_text more ++ (message_text (get_or slots ((head + i) % 1024) unused) ++ parted true (map message_text (from slots (head + (i + 1)) (n - (i + 1)))))
  unfolding from parted
  line_next h =
      let z : n - i ≡ suc (n - (i + 1)) = omega arith in
      let y : suc (head + i) ≡ head + (i + 1) = omega arith in
      rw (z, y)

  line_end : n ≤ i → parted more (map message_text (from slots (head + i) (n - i))) ≡ none_text more
  unfolding from parted
  line_end h = let z : n - i ≡ 0 = omega arith in rw z

-- The same over the rows that its places are lent as.
module _ (rows : List (List ℕ)) (head n : ℕ) (more : Bool) (i : ℕ) where
  abbrev row : List ℕ
  row = slice_index_or rows ((head + i) % 1024) []

  pub slots_next : i < n
      → parted more (map message_text (from (slots_of rows) (head + i) (n - i)))
      ≡ comma_text more ++ (message_text (message_in (slice_index row 0) (slice_index row 1)) ++ parted true (map message_text (from (slots_of rows) (head + (i + 1)) (n - (i + 1)))))
  slots_next h =
      rw (sym (read_at rows ((head + i) % 1024))) (line_next (slots_of rows) head n more i h)

  pub slots_end : n ≤ i → parted more (map message_text (from (slots_of rows) (head + i) (n - i))) ≡ none_text more
  slots_end h = line_end (slots_of rows) head n more i h
