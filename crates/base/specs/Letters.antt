-- Texts as the bytes that the code has for them, so that a definition shows a word as its page does.
use Rattle.std.specs.Prelude.{List, [], ◌∷◌, ℕ}
use Prim.Native.Char.{Char, code}
use Prim.Native.String.{String, [] as none, ◌∷◌ as ◌before◌}

-- A letter as its code, which in ASCII is its byte.
abbrev pub letter : Char → ℕ
letter c = code c

abbrev pub letters : String → List ℕ
letters none = []
letters (c before s) = letter c ∷ letters s
