-- A reply's lines and bytes, and its limits (document 01, "Client cache", and refusal 3).
use Rattle.std.specs.Prelude.{Bool, Option, None, is_some, ◌&&◌, List, [], ◌∷◌, ◌++◌, ℕ, ◌+◌, min, ltb, leb, length, get_or, take, drop, replicate}
use Rattle.std.specs.Option.{unwrap_or}
use Rattle.base.specs.Choice.{pick}
use Rattle.reply.specs.declared.Reply.{Reply}

-- The limits of a reply, and of a response: refusal 3.
abbrev pub max_lines : ℕ
max_lines = 8

abbrev pub max_bytes : ℕ
max_bytes = 64

abbrev pub max_pids : ℕ
max_pids = 6

-- A reply without lines; and what a list of replies has past its end.
abbrev pub empty_reply : Reply
empty_reply = record { lines = 0; lengths = replicate max_lines 0; bytes = replicate max_bytes 0 }

abbrev pub no_reply : Reply
no_reply = record { lines = 0; lengths = []; bytes = [] }

-- What one of the eight range queries brought: nothing, or a reply, possibly without lines. A range of which nothing is known;
-- and what a list of ranges has past its end.
abbrev pub absent_range : Option Reply
absent_range = None

abbrev pub no_range : Option Reply
no_range = None

-- Whether a range has a reply, and which one; one without lines where it has none.
abbrev pub present : Option Reply → Bool
present r = is_some r

abbrev pub reply_of : Option Reply → Reply
reply_of r = unwrap_or r empty_reply

unfoldable pub sum_of : List ℕ → ℕ
sum_of [] = 0
sum_of (x ∷ xs) = x + sum_of xs

unfoldable pub counted_of : ℕ → ℕ
counted_of lines = min lines max_lines

-- The lines' lengths, and the bytes of all of them together.
unfoldable pub lengths_of : Reply → List ℕ
lengths_of r = take r.lines r.lengths

unfoldable pub total_of : Reply → ℕ
total_of r = sum_of (lengths_of r)

unfoldable pub within_of : Reply → Bool
within_of r = leb r.lines max_lines && leb (total_of r) max_bytes

-- The lines joined, and how many bytes that is. Within the limits it is all of them.
unfoldable pub size_of : Reply → ℕ
size_of r = min (total_of r) max_bytes

unfoldable pub joined_of : Reply → List ℕ
joined_of r = take (size_of r) r.bytes

-- A lent area whose start is filled with the lines joined, if they fit.
unfoldable pub filled_of : Reply → List ℕ → List ℕ
filled_of r area = pick (ltb (length area) (size_of r)) area (joined_of r ++ drop (size_of r) area)

-- The first line's length, 0 where there is no line, and the first line.
unfoldable pub first_length_of : Reply → ℕ
first_length_of r = get_or (lengths_of r) 0 0

unfoldable pub first_line : Reply → List ℕ
first_line r = take (first_length_of r) r.bytes
