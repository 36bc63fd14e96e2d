-- A reply as a row of numbers, and the newest replies as rows.
use Rattle.std.specs.Prelude.{List, [], ◌∷◌, ◌++◌, map, ◌≡◌, ℕ, ◌+◌, length, get_or, set, take, drop, replicate}
use Rattle.std.proofs.Common.{append_assoc, arith, take_at, drop_at}
use Rattle.std.proofs.lemmas.List.{length-map, length-replicate}
use Rattle.std.proofs.Math.ListN.{get_or-map}
use Rattle.base.specs.Each.{map_set, map_replicate}
use Rattle.base.specs.Write.{over, over_over}
use Rattle.reply.specs.Rules.{max_lines, max_bytes, empty_reply, no_reply}
use Rattle.reply.specs.declared.Reply.{Reply}

-- How long a row is.
abbrev pub row_size : ℕ
row_size = 1 + max_lines + max_bytes

abbrev pub zeros : ℕ → List ℕ
zeros n = replicate n 0

-- THE REPLY that a row is: the line count, the lines' lengths, the bytes.
unfoldable pub reply_in : List ℕ → Reply
reply_in row = record { lines = get_or row 0 0; lengths = take max_lines (drop 1 row); bytes = take max_bytes (drop (1 + max_lines) row) }

-- What is put into a row is read out of it.
parts : (n : ℕ) (l b z : List ℕ) → length l ≡ max_lines → length b ≡ max_bytes → reply_in (n ∷ (l ++ (b ++ z))) ≡ record { lines = n; lengths = l; bytes = b }
unfolding reply_in
parts n l b z h k =
    let c : drop (1 + max_lines) (n ∷ (l ++ (b ++ z))) ≡ b ++ z = drop_at l (b ++ z) max_lines h in
    rw (c, take_at l (b ++ z) max_lines h, take_at b z max_bytes k)

joined : (r : Reply) (blank : List ℕ) → length r.lengths ≡ max_lines → length r.bytes ≡ max_bytes
    → reply_in (over (r.lines ∷ blank) 1 (r.lengths ++ r.bytes)) ≡ r
unfolding over
joined r blank h k = rw (append_assoc) (parts r.lines r.lengths r.bytes _ h k)

pub packed : (r : Reply) (blank : List ℕ) → length r.lengths ≡ max_lines → length r.bytes ≡ max_bytes → length blank ≡ max_lines + max_bytes
    → reply_in (over (over (r.lines ∷ blank) 1 r.lengths) (1 + max_lines) r.bytes) ≡ r
packed r blank h k l =
    let e : 1 + max_lines ≡ 1 + length r.lengths = rw h in
    let f = over_over (r.lines ∷ blank) 1 r.lengths (omega arith) r.bytes in
    rw (e, f) (joined r blank h k)

-- THE NEWEST REPLIES that the lent rows are, one for each PID.
unfoldable pub store_of : List (List ℕ) → List Reply
store_of rows = map reply_in rows

pub stored_at : (rows : List (List ℕ)) (p : ℕ) → get_or (store_of rows) p no_reply ≡ reply_in (get_or rows p [])
unfolding store_of reply_in
stored_at rows p = get_or-map reply_in rows p []

pub stored_set : (rows : List (List ℕ)) (p : ℕ) (row : List ℕ) → store_of (set rows p row) ≡ set (store_of rows) p (reply_in row)
unfolding store_of
stored_set rows p row = map_set reply_in rows p row

pub stored_length : (rows : List (List ℕ)) → length (store_of rows) ≡ length rows
unfolding store_of
stored_length rows = length-map rows reply_in

-- No reply for any PID.
unfoldable pub blank_rows : List (List ℕ)
blank_rows = replicate 256 (zeros row_size)

unfoldable pub unknown_replies : List Reply
unknown_replies = replicate 256 empty_reply

pub stored_blank : store_of blank_rows ≡ unknown_replies
unfolding store_of blank_rows unknown_replies reply_in
stored_blank = map_replicate reply_in 256 (zeros row_size)

pub blank_length : length blank_rows ≡ 256
unfolding blank_rows
blank_length = length-replicate {A = List ℕ} 256 (zeros row_size)

pub unknown_length : length unknown_replies ≡ 256
unfolding unknown_replies
unknown_length = length-replicate 256 empty_reply
