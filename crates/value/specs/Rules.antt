-- The value of a reply (document 01, "Client cache", as document 02's A1 has it).
use Rattle.std.specs.Prelude.{Option, Some, None, List, [], ◌∷◌, ℕ, ◌+◌, ◌-◌, ◌*◌, min, take, drop}
use Rattle.pid.specs.Lengths.{data_length_of}
use Rattle.reply.specs.Rules.{first_line}
use Rattle.reply.specs.declared.Reply.{Reply}

-- A line begins with the mode and the PID, which are no data.
abbrev pub head : ℕ
head = 2

-- The most bytes of a value.
abbrev pub max_width : ℕ
max_width = 4

-- How many bytes a value has: as many as the PID's data length, at most four; four where there is no length.
unfoldable pub width_of : Option ℕ → ℕ
width_of (Some n) = min n max_width
width_of None = max_width

-- The first n bytes of data, of the first line alone; where fewer are present, those.
unfoldable pub data_of : ℕ → Reply → List ℕ
data_of n r = take n (drop head (first_line r))

-- How many make the value, of a line of n bytes.
unfoldable pub used_of : Option ℕ → ℕ → ℕ
used_of l n = min (n - head) (width_of l)

-- The high byte first.
unfoldable pub fold_of : ℕ → List ℕ → ℕ
fold_of acc [] = acc
fold_of acc (b ∷ bs) = fold_of (acc * 256 + b) bs

unfoldable pub value_by : Option ℕ → Reply → ℕ
value_by l r = fold_of 0 (data_of (width_of l) r)

-- THE VALUE of a reply for a PID: by J1979's length of the PID, and by nothing else.
unfoldable pub value_of : ℕ → Reply → ℕ
value_of p r = value_by (data_length_of p) r
