-- Laws of the definitions of `Rules`.
use Rattle.std.specs.Prelude.{true, List, ◌++◌, ◌≡◌, refl, ℕ, ◌+◌, ◌<◌, ◌≤◌, leb, length, get_or, take, drop}
use Rattle.std.proofs.Common.{arith, add-one, length-append, length-take, length-drop, drop_of_length-le, drop-cons, take_at, drop_at}
use Rattle.std.proofs.Math.Seq.{get_or-take}
use borrow.Author.Tests.{leb-true, le-ltb, lt-ltb}
use Rattle.base.specs.Both.{both_right}
use Rattle.base.specs.Write.{over}
use Rattle.reply.specs.Rules.{max_lines, max_bytes, empty_reply, sum_of, counted_of, lengths_of, total_of, within_of, size_of, joined_of, filled_of}
use Rattle.reply.specs.declared.Reply.{Reply}

pub sum_step : (xs : List ℕ) (i : ℕ) → i < length xs → sum_of (drop i xs) ≡ get_or xs i 0 + sum_of (drop (i + 1) xs)
unfolding sum_of
sum_step xs i h = rw (add-one i, drop-cons xs i 0 h)

pub sum_end : (xs : List ℕ) (i : ℕ) → length xs ≤ i → sum_of (drop i xs) ≡ 0
unfolding sum_of
sum_end xs i h = rw (drop_of_length-le xs h)

pub counted_le : (n : ℕ) → counted_of n ≤ max_lines
unfolding counted_of
counted_le n = omega arith

pub size_le : (r : Reply) → size_of r ≤ max_bytes
unfolding size_of
size_le r = omega arith

module _ (r : Reply) where
  pub lengths_length : length r.lengths ≡ max_lines → length (lengths_of r) ≡ counted_of r.lines
  unfolding lengths_of counted_of
  lengths_length h = rw (length-take, h)

  pub lengths_at : (i : ℕ) → i < counted_of r.lines → get_or (lengths_of r) i 0 ≡ get_or r.lengths i 0
  unfolding lengths_of counted_of
  lengths_at i h = get_or-take r.lines r.lengths i 0 (omega arith)

  -- Within the limits nothing is cut off.
  pub within_size : within_of r ≡ true → size_of r ≡ total_of r
  unfolding within_of size_of
  within_size h = omega (arith, leb-true (total_of r) max_bytes (both_right (leb r.lines max_lines) (leb (total_of r) max_bytes) h))

  pub joined_length : length r.bytes ≡ max_bytes → length (joined_of r) ≡ size_of r
  unfolding joined_of size_of
  joined_length h = rw (length-take, h) (omega arith)

  pub filled_short : (area : List ℕ) → length area < size_of r → filled_of r area ≡ area
  unfolding filled_of
  filled_short area k = rw (lt-ltb (length area) (size_of r) k)

  pub filled_long : (area : List ℕ) → size_of r ≤ length area → filled_of r area ≡ joined_of r ++ drop (size_of r) area
  unfolding filled_of
  filled_long area k = rw (le-ltb (length area) (size_of r) k)

  -- An area that has the room, with the bytes written over its start.
  pub filled_over : (area : List ℕ) → length r.bytes ≡ max_bytes → size_of r ≤ length area → over area 0 (take (size_of r) r.bytes) ≡ filled_of r area
  unfolding over joined_of
  filled_over area h k =
      let l : length (take (size_of r) r.bytes) ≡ size_of r = joined_length h in
      let z : 0 + size_of r ≡ size_of r = omega arith in
      rw (filled_long area k, l, z)

-- A reply without lines needs no area, and leaves one as it is.
pub size_empty : size_of empty_reply ≡ 0
unfolding size_of total_of lengths_of sum_of
size_empty = refl

pub filled_empty : (area : List ℕ) → filled_of empty_reply area ≡ area
unfolding filled_of joined_of size_of total_of lengths_of sum_of
filled_empty area = rw (le-ltb (length area) 0 (omega arith))

-- An area that is filled: its start is the reply, what is behind it is as it was, and so is its length.
module _ (r : Reply) (area : List ℕ) (h : length r.bytes ≡ max_bytes) (k : size_of r ≤ length area) where
  pub filled_start : take (size_of r) (filled_of r area) ≡ joined_of r
  filled_start = rw (filled_long r area k) (take_at (joined_of r) (drop (size_of r) area) (size_of r) (joined_length r h))

  pub filled_behind : drop (size_of r) (filled_of r area) ≡ drop (size_of r) area
  filled_behind = rw (filled_long r area k) (drop_at (joined_of r) (drop (size_of r) area) (size_of r) (joined_length r h))

  pub filled_length : length (filled_of r area) ≡ length area
  filled_length = rw (filled_long r area k, length-append, joined_length r h, length-drop) (omega arith)
