-- Bytes as text: history-format.md, "A PID is two hex digits. Bytes are pairs of hex digits. Input takes hex
-- digits in either case, output is upper case", and its token COMMAND.
use Rattle.std.specs.Prelude.{Bool, true, ◌&&◌, List, [], ◌∷◌, ◌≡◌, ℕ, ◌+◌, ◌*◌, ◌/◌, ◌%◌, eqb, leb, ltb, length, get_or, take, Option, Some, None, Result, Ok, Err}
use Rattle.ascii.specs.Chars.{hex_value, hex_digit}
use Rattle.base.specs.Choice.{pick}
use Rattle.base.specs.Letters.{letter}
use Rattle.base.specs.Write.{over}
use Rattle.hex_text.specs.declared.Unread.{Unread}
use Rattle.hex_text.specs.declared.Unread.TheVariants as unread

unfoldable pub is_hex : ℕ → Bool
is_hex b = ltb (hex_value b) 16

unfoldable pub pair_of : ℕ → ℕ → ℕ
pair_of high low = hex_value high * 16 + hex_value low

-- "A PID is two hex digits."
unfoldable pub pid_of : List ℕ → Option ℕ
pid_of s = pick (eqb (length s) 2 && is_hex (get_or s 0 0) && is_hex (get_or s 1 0)) (Some (pair_of (get_or s 0 0) (get_or s 1 0))) None

-- Hex digits alone, and an even number of them.
unfoldable pub hexes : List ℕ → Bool
hexes [] = true
hexes (b ∷ bs) = is_hex b && hexes bs

unfoldable pub is_pairs : List ℕ → Bool
is_pairs s = eqb (length s % 2) 0 && hexes s

-- The bytes whose pairs a text holds.
unfoldable pub pairs : List ℕ → List ℕ
pairs [] = []
pairs (h ∷ []) = []
pairs (h ∷ l ∷ s) = pair_of h l ∷ pairs s

-- Reading them into a lent area, of which they take the start. What is bad or finds no room leaves it as it was.
unfoldable pub bytes_of : ℕ → List ℕ → Result ℕ Unread
bytes_of room s = pick (is_pairs s) (pick (leb (length s / 2) room) (Ok (length s / 2)) (Err unread.Short)) (Err unread.Bad)

unfoldable pub read_of : List ℕ → List ℕ → List ℕ
read_of d s = pick (is_pairs s) (pick (leb (length s / 2) (length d)) (over d 0 (pairs s)) d) d

-- Bytes that stand for themselves, likewise.
unfoldable pub plain_of : ℕ → List ℕ → Result ℕ Unread
plain_of room s = pick (leb (length s) room) (Ok (length s)) (Err unread.Short)

unfoldable pub copy_of : List ℕ → List ℕ → List ℕ
copy_of d s = pick (leb (length s) (length d)) (over d 0 s) d

-- COMMAND: "`'` and the bytes themselves .., or `x` and hex pairs ..; either alone is no bytes"
unfoldable pub command_of : ℕ → List ℕ → Result ℕ Unread
command_of room [] = Err unread.Bad
command_of room (b ∷ s) = pick (eqb b (letter "'")) (plain_of room s) (pick (eqb b (letter "x")) (bytes_of room s) (Err unread.Bad))

unfoldable pub command_bytes : List ℕ → List ℕ → List ℕ
command_bytes d [] = d
command_bytes d (b ∷ s) = pick (eqb b (letter "'")) (copy_of d s) (pick (eqb b (letter "x")) (read_of d s) d)

-- The same in the text's own place, which has room always: of what is bad there are no bytes, and the text is as it was.
unfoldable pub turn_of : List ℕ → Option ℕ
turn_of s = pick (is_pairs s) (Some (length s / 2)) None

unfoldable pub turned_bytes : List ℕ → List ℕ
turned_bytes s = pick (is_pairs s) (pairs s) []

unfoldable pub command_turn : List ℕ → Option ℕ
command_turn [] = None
command_turn (b ∷ s) = pick (eqb b (letter "'")) (Some (length s)) (pick (eqb b (letter "x")) (turn_of s) None)

unfoldable pub command_text : List ℕ → List ℕ
command_text [] = []
command_text (b ∷ s) = pick (eqb b (letter "'")) s (pick (eqb b (letter "x")) (turned_bytes s) [])

-- The text of bytes, "output is upper case".
unfoldable pub hex_text : List ℕ → List ℕ
hex_text [] = []
hex_text (b ∷ s) = hex_digit (b / 16) ∷ hex_digit b ∷ hex_text s

-- The first i bytes are written as pairs behind the place at.
pub record Filled (d : List ℕ) (at : ℕ) (bytes : List ℕ) (i place : ℕ) (out : List ℕ) : Type 0 where
  pub place_is : place ≡ at + 2 * i
  pub out_is : out ≡ over d at (hex_text (take i bytes))
