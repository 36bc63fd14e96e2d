-- What the eight range queries brought, as rows of numbers, as they are lent.
use Rattle.std.specs.Prelude.{Option, Some, None, List, [], ◌∷◌, map, ◌≡◌, refl, ℕ, ◌+◌, ◌≤◌, eqb, get_or, set, length, drop, replicate}
use Rattle.std.proofs.Common.{append-nil, arith, drop_of_length-le}
use Rattle.std.proofs.lemmas.List.{length-map, length-replicate}
use Rattle.std.proofs.Math.ListN.{get_or-map}
use Rattle.base.specs.Choice.{pick}
use Rattle.base.specs.Each.{map_set, map_replicate}
use Rattle.base.specs.Write.{over}
use Rattle.reply.specs.Rows.{row_size, zeros, reply_in}
use Rattle.reply.specs.Rules.{empty_reply, no_range, reply_of}
use Rattle.reply.specs.declared.Reply.{Reply}
use Rattle.link.specs.Rules.{no_ranges}
use Rattle.link.specs.declared.Connecting.{Connecting}
use Rattle.link.specs.declared.Connecting.TheVariants.{Connected, Failed, Already}

-- How long a row is.
abbrev pub range_size : ℕ
range_size = 1 + row_size

-- WHAT A ROW IS: whether there is a reply, and the reply's own row.
unfoldable pub range_in : List ℕ → Option Reply
range_in row = pick (eqb (get_or row 0 0) 0) None (Some (reply_in (drop 1 row)))

-- What is put into a row is read out of it.
pub range_packed : (r : Reply) (blank row : List ℕ) → length row ≡ row_size → length blank ≡ row_size → reply_in row ≡ r
    → range_in (over (1 ∷ blank) 1 row) ≡ Some r
unfolding range_in over
range_packed r blank row h k e =
    let g : length (1 ∷ blank) ≤ 1 + length row = omega arith in
    rw (drop_of_length-le (1 ∷ blank) g, append-nil, e)

-- A row that nothing is put into.
pub range_blank : range_in (zeros range_size) ≡ None
unfolding range_in
range_blank = refl

-- THE RANGES that the lent rows are.
unfoldable pub ranges_of : List (List ℕ) → List (Option Reply)
ranges_of rows = map range_in rows

pub range_at : (rows : List (List ℕ)) (n : ℕ) → get_or (ranges_of rows) n no_range ≡ range_in (get_or rows n [])
unfolding ranges_of range_in reply_in
range_at rows n = get_or-map range_in rows n []

pub range_set : (rows : List (List ℕ)) (n : ℕ) (row : List ℕ) → ranges_of (set rows n row) ≡ set (ranges_of rows) n (range_in row)
unfolding ranges_of
range_set rows n row = map_set range_in rows n row

pub ranges_length : (rows : List (List ℕ)) → length (ranges_of rows) ≡ length rows
unfolding ranges_of
ranges_length rows = length-map rows range_in

-- Nothing known of any range.
unfoldable pub blank_ranges : List (List ℕ)
blank_ranges = replicate 8 (zeros range_size)

pub ranges_blank : ranges_of blank_ranges ≡ no_ranges
unfolding ranges_of blank_ranges no_ranges range_in reply_in
ranges_blank = map_replicate range_in 8 (zeros range_size)

pub blank_length : length blank_ranges ≡ 8
unfolding blank_ranges
blank_length = length-replicate {A = List ℕ} 8 (zeros range_size)

pub none_length : length no_ranges ≡ 8
unfolding no_ranges
none_length = refl

-- ---- what stands behind the flags

-- WHAT STANDS BEHIND A ROW'S FLAG, whatever the flag says.
unfoldable pub behind_in : List ℕ → Reply
behind_in row = reply_in (drop 1 row)

-- WHAT STANDS BEHIND THE FLAGS of the lent rows. `ranges_of` passes over it where a range is absent, so that a contract which speaks of
-- the ranges alone would let those bytes be anything: a refused call could write there, and a loss leave there what was known.
unfoldable pub replies_in : List (List ℕ) → List Reply
replies_in rows = map behind_in rows

-- The same of ranges by value: an absent one has a reply without lines.
unfoldable pub replies_of : List (Option Reply) → List Reply
replies_of ranges = map reply_of ranges

unfoldable pub no_replies : List Reply
no_replies = replicate 8 empty_reply

-- What stands there after an outcome of connecting, by what is said to it: what the outcome brought, and what was there if there was a
-- connection already.
unfoldable pub replies_by : Connecting → List Reply → List Reply → List Reply
replies_by Connected brought had = brought
replies_by Failed brought had = brought
replies_by Already brought had = had

-- What is put into a row stands there.
pub behind_packed : (r : Reply) (blank row : List ℕ) → length row ≡ row_size → length blank ≡ row_size → reply_in row ≡ r
    → behind_in (over (1 ∷ blank) 1 row) ≡ r
unfolding behind_in over
behind_packed r blank row h k e =
    let g : length (1 ∷ blank) ≤ 1 + length row = omega arith in
    rw (drop_of_length-le (1 ∷ blank) g, append-nil, e)

pub behind_set : (rows : List (List ℕ)) (n : ℕ) (row : List ℕ) → replies_in (set rows n row) ≡ set (replies_in rows) n (behind_in row)
unfolding replies_in
behind_set rows n row = map_set behind_in rows n row

pub behind_length : (rows : List (List ℕ)) → length (replies_in rows) ≡ length rows
unfolding replies_in
behind_length rows = length-map rows behind_in

pub replies_blank : replies_in blank_ranges ≡ no_replies
unfolding replies_in blank_ranges no_replies behind_in reply_in
replies_blank = map_replicate behind_in 8 (zeros range_size)

pub replies_at : (ranges : List (Option Reply)) (n : ℕ) → get_or (replies_of ranges) n empty_reply ≡ reply_of (get_or ranges n no_range)
unfolding replies_of
replies_at ranges n = get_or-map reply_of ranges n no_range

pub replies_length : (ranges : List (Option Reply)) → length (replies_of ranges) ≡ length ranges
unfolding replies_of
replies_length ranges = length-map ranges reply_of
