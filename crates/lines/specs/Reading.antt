-- Lines of an input: history-format.md, "a line ends with a line feed. .. The line feed doesn't count to a line's
-- length, a last line without one is a line, and a carriage return is a byte like any other." 10 is the line feed,
-- 35 is `#`. The memory's length is the longest line that is taken.
use Rattle.std.specs.Prelude.{Bool, true, false, not, List, [], ◌∷◌, ◌≡◌, ℕ, ◌+◌, ◌-◌, min, eqb, leb, ltb, length, take}
use Rattle.base.specs.Choice.{pick}
use Rattle.base.specs.Write.{over}
use Rattle.text.specs.Cut.{place_of, head_of}
use Rattle.lines.specs.declared.Reading.{Reading}
use Rattle.lines.specs.declared.Fed.{Fed}

unfoldable pub start_reading : Reading
start_reading = record { len = 0; long = false }

-- Where the next byte of the line stands in the memory d.
unfoldable pub place_in : List ℕ → Reading → ℕ
place_in d r = min r.len (length d)

-- The line with the bytes s more, and the memory with as many of them as have room.
unfoldable pub kept_of : List ℕ → Reading → List ℕ → Reading
kept_of d r s =
    pick (leb (place_in d r + length s) (length d))
    (record { len = place_in d r + length s; long = r.long })
    (record { len = length d; long = true })

unfoldable pub kept_bytes : List ℕ → Reading → List ℕ → List ℕ
kept_bytes d r s = over d (place_in d r) (take (length d - place_in d r) s)

-- A part of the input is used up to the line's end.
unfoldable pub fed_of : List ℕ → Reading → List ℕ → Fed
fed_of d r input =
    record {
      reading = kept_of d r (head_of 10 input);
      used = pick (ltb (place_of 10 input) (length input)) (place_of 10 input + 1) (place_of 10 input);
      ended = ltb (place_of 10 input) (length input);
    }

-- "An empty line and one that begins with `#` give no answer line."
unfoldable pub answers_of : List ℕ → Bool
answers_of [] = false
answers_of (b ∷ s) = not (eqb b 35)

-- The bytes s of a line are read: the memory d holds as many of them as it has room for.
pub record Holds (d : List ℕ) (r : Reading) (s : List ℕ) : Type 0 where
  pub len_is : r.len ≡ min (length s) (length d)
  pub long_is : r.long ≡ ltb (length d) (length s)
  pub text_is : take r.len d ≡ take (length d) s
