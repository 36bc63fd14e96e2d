-- Bytes and words as hex digits: history-format.md, "`-` stands for none".
use Rattle.std.specs.Prelude.{List, [], ◌∷◌, ◌++◌, ◌≡◌, ℕ, ◌+◌, ◌/◌, ◌%◌, ◌<◌, ◌≤◌, eqb, length, get_or, drop}
use Rattle.std.proofs.Common.{add-one, drop_of_length-le, drop-cons, eq-eqb, ne_eqb}
use Rattle.base.specs.Choice.{pick}
use Rattle.base.specs.Letters.{letters}
use Rattle.hex_text.specs.Pairs.{hex_text}

-- A PID as text; the pairs of bytes; 32 bits.
abbrev pub pid_text : ℕ → List ℕ
pid_text p = hex_text (p ∷ [])

unfoldable pub bytes_text : List ℕ → List ℕ
bytes_text s = pick (eqb (length s) 0) (letters "-") (hex_text s)

unfoldable pub word_text : ℕ → List ℕ
word_text w = hex_text (w / 16777216 % 256 ∷ w / 65536 % 256 ∷ w / 256 % 256 ∷ w % 256 ∷ [])

-- One byte more of a text of pairs.
pub pairs_next : (s : List ℕ) (i : ℕ) → i < length s → hex_text (drop i s) ≡ hex_text (get_or s i 0 ∷ []) ++ hex_text (drop (i + 1) s)
unfolding hex_text
pairs_next s i h = rw (drop-cons s i 0 h, add-one i)

pub pairs_end : (s : List ℕ) (i : ℕ) → length s ≤ i → hex_text (drop i s) ≡ []
unfolding hex_text
pairs_end s i h = rw (drop_of_length-le s h)

pub bytes_none : (s : List ℕ) → length s ≡ 0 → bytes_text s ≡ letters "-"
unfolding bytes_text
bytes_none s h = rw (eq-eqb (length s) 0 h)

pub bytes_some : (s : List ℕ) → (length s ≡ 0 → ⊥) → bytes_text s ≡ hex_text s
unfolding bytes_text
bytes_some s h = rw (ne_eqb (length s) 0 h)
