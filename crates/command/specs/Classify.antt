-- What a command's bytes ask for, while connected: document 01, "Commands (desk)", step by step.
use Rattle.std.specs.Prelude.{Bool, true, false, ◌&&◌, List, [], ◌∷◌, ℕ, suc, ◌+◌, ◌-◌, ◌*◌, ◌%◌, leb, ltb, eqb, length, get_or, take, Option, Some, None}
use Rattle.ascii.specs.Chars.{upper, hex_value}
use Rattle.base.specs.Choice.{pick}
use Rattle.base.specs.Letters.{letter, letters}
use Rattle.command.specs.declared.Command.{Command}
use Rattle.command.specs.declared.Command.TheVariants.{Range, Pid, Unknown}

-- "odd length, drop the last byte"
unfoldable pub stripped : List ℕ → List ℕ
stripped cmd = take (length cmd - length cmd % 2) cmd

-- The same text "in either letter case".
unfoldable pub same_text : List ℕ → List ℕ → Bool
same_text [] [] = true
same_text [] (y ∷ ys) = false
same_text (x ∷ xs) [] = false
same_text (x ∷ xs) (y ∷ ys) = eqb (upper x) (upper y) && same_text xs ys

-- "0100, 0120 .. 01E0"
unfoldable pub range_texts : List (List ℕ)
range_texts =
    letters "0100" ∷
    letters "0120" ∷
    letters "0140" ∷
    letters "0160" ∷
    letters "0180" ∷
    letters "01A0" ∷
    letters "01C0" ∷
    letters "01E0" ∷
    []

-- The first of the texts that cmd is, or how many there are.
unfoldable pub index_of : List (List ℕ) → List ℕ → ℕ
index_of [] cmd = 0
index_of (t ∷ ts) cmd = pick (same_text cmd t) 0 (suc (index_of ts cmd))

-- The first of the queries that cmd is, if it is one.
unfoldable pub range_of : List ℕ → Option ℕ
range_of cmd = pick (ltb (index_of range_texts cmd) 8) (Some (index_of range_texts cmd)) None

-- "fewer than 4 bytes or a start other than 01 and two hex digits, the answer `?`; else the PID"
unfoldable pub pid_of : List ℕ → Command
pid_of s =
    pick (leb 4 (length s) && eqb (get_or s 0 0) (letter "0") && eqb (get_or s 1 0) (letter "1") && ltb (hex_value (get_or s 2 0)) 16 && ltb (hex_value (get_or s 3 0)) 16)
    (Pid (hex_value (get_or s 2 0) * 16 + hex_value (get_or s 3 0)))
    Unknown

unfoldable pub command_of : List ℕ → Command
command_of cmd = pick (ltb (index_of range_texts (stripped cmd)) 8) (Range (index_of range_texts (stripped cmd))) (pid_of (stripped cmd))

-- Document 01's class of each command, 0 `range`, 1 `pid`, 2 `?`, and its number.
abbrev pub values_of : Command → List ℕ
values_of (Range k) = 0 ∷ k ∷ []
values_of (Pid p) = 1 ∷ p ∷ []
values_of Unknown = 2 ∷ []
