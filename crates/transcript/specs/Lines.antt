-- What the program `commands` writes: document 01, "Commands (desk)".
use Rattle.std.specs.Prelude.{List, [], ◌∷◌, ◌++◌, ◌≡◌, ℕ, ◌+◌, ◌/◌, ◌%◌, ◌≤◌, min, eqb, ltb, length, take, set, replicate}
use Rattle.ascii.specs.Chars.{hex_digit}
use Rattle.base.specs.Choice.{pick}
use Rattle.base.specs.Letters.{letter, letters}
use Rattle.base.specs.Write.{over}
use Rattle.command.specs.Classify.{command_of}
use Rattle.command.specs.declared.Command.{Command}
use Rattle.command.specs.declared.Command.TheVariants.{Range, Pid, Unknown}
use Rattle.transcript.specs.declared.Line.{Line}
use Rattle.transcript.specs.declared.Text.{Text}
use Rattle.transcript.specs.declared.Fed.{Fed}
use Rattle.transcript.specs.declared.Used.{Used}
use Rattle.transcript.specs.declared.Stepped.{Stepped}

-- The class: `range`, `pid` or `?`.
unfoldable pub class_name : Command → List ℕ
class_name (Range k) = letters "range"
class_name (Pid p) = letters "pid"
class_name Unknown = letters "?"

-- The number: a range's, 0 to 7, as a digit; a PID as two upper-case hex digits; `-` for `?`.
unfoldable pub number_text : Command → List ℕ
number_text (Range k) = (letter "0" + k % 10) ∷ []
number_text (Pid p) = hex_digit (p / 16) ∷ hex_digit p ∷ []
number_text Unknown = letters "-"

-- What follows a line: class and number behind tabs, and a line feed.
unfoldable pub tail_text : Command → List ℕ
tail_text c = (letter "\t" ∷ class_name c) ++ ((letter "\t" ∷ number_text c) ++ letters "\n")

-- What follows the last line, where the input ends without a line feed: an empty one is no line.
unfoldable pub last_text : List ℕ → List ℕ
last_text line = pick (eqb (length line) 0) [] (tail_text (command_of line))

-- THE OUTPUT for an input, from within a line whose bytes so far are given: each byte of a line as it is, and
-- behind the line its class and its number.
unfoldable pub output : List ℕ → List ℕ → List ℕ
output line [] = last_text line
output line (b ∷ bs) = pick (eqb b (letter "\n")) (tail_text (command_of line) ++ output [] bs) (b ∷ output (line ++ (b ∷ [])) bs)

-- The bytes that a `Line` keeps of its line, and those that a `Text` stands for.
unfoldable pub kept_of : Line → List ℕ
kept_of l = take l.kept l.head

unfoldable pub text_of : Text → List ℕ
text_of t = take t.len t.bytes

unfoldable pub start_line : Line
start_line = record { head = replicate 6 0; kept = 0 }

-- A line as the code holds it: six places, of which at most six are kept.
pub record Sound (l : Line) : Type 0 where
  pub whole : length l.head ≡ 6
  pub within : l.kept ≤ 6

-- A line with one byte more, of which the first six are kept.
unfoldable pub keep_of : Line → ℕ → Line
keep_of l b = pick (ltb l.kept 6) (record { head = set l.head l.kept b; kept = l.kept + 1 }) l

-- What one byte of the input writes, and the line after it.
unfoldable pub step_text : Line → ℕ → List ℕ
step_text l b = pick (eqb b (letter "\n")) (tail_text (command_of (kept_of l))) (b ∷ [])

unfoldable pub step_line : Line → ℕ → Line
step_line l b = pick (eqb b (letter "\n")) start_line (keep_of l b)

unfoldable pub stepped_of : Line → ℕ → ℕ → Stepped
stepped_of l b at = record { line = step_line l b; at = at + length (step_text l b) }

-- What a part of the input writes, and the line after it.
unfoldable pub part_text : Line → List ℕ → List ℕ
part_text l [] = []
part_text l (b ∷ bs) = step_text l b ++ part_text (step_line l b) bs

unfoldable pub part_line : Line → List ℕ → Line
part_line l [] = l
part_line l (b ∷ bs) = part_line (step_line l b) bs

-- As much of the input is used as surely has room: nine bytes for each.
unfoldable pub usable : List ℕ → ℕ → List ℕ
usable input room = take (min (length input) (room / 9)) input

unfoldable pub used_of : Line → List ℕ → ℕ → Used
used_of l input room = record { line = part_line l (usable input room); used = length (usable input room) }

unfoldable pub fed_of : Line → List ℕ → ℕ → Fed
fed_of l input room =
    record {
      line = part_line l (usable input room);
      used = length (usable input room);
      written = length (part_text l (usable input room));
    }

-- The first i bytes of an input are fed: the line then, how much is written, and the lent memory with it.
pub record Filled (l : Line) (input d : List ℕ) (i : ℕ) (now : Line) (at : ℕ) (out : List ℕ) : Type 0 where
  pub line_is : now ≡ part_line l (take i input)
  pub at_is : at ≡ length (part_text l (take i input))
  pub out_is : out ≡ over d 0 (part_text l (take i input))

-- The first i bytes of an input are fed: the line then, and the text out, which is d with what they wrote behind it.
pub record Behind (l : Line) (input d : List ℕ) (i : ℕ) (now : Line) (out : List ℕ) : Type 0 where
  pub line_is : now ≡ part_line l (take i input)
  pub out_is : out ≡ d ++ part_text l (take i input)

-- What is written over the parts of an input, and at its end.
unfoldable pub written : Line → List (List ℕ) → List ℕ
written l [] = last_text (kept_of l)
written l (p ∷ ps) = part_text l p ++ written (part_line l p) ps

unfoldable pub joined : List (List ℕ) → List ℕ
joined [] = []
joined (p ∷ ps) = p ++ joined ps
