-- How long texts are at most, so that a caller can lend enough memory for them.
use Rattle.std.specs.Prelude.{List, ◌≡◌, refl, ℕ, ◌+◌, ◌*◌, ◌≤◌, eqb, length}
use Rattle.std.proofs.Common.{arith}
use Rattle.base.specs.Choice.{cases}
use Rattle.hex_text.specs.Pairs.{hex_text}
use Rattle.hex_text.specs.Laws.{text_length}
use Rattle.writing_pairs.specs.Pairs.{pid_text, bytes_text, word_text}

pub pid_length : (p : ℕ) → length (pid_text p) ≡ 2
unfolding hex_text
pid_length p = refl

pub word_length : (w : ℕ) → length (word_text w) ≡ 8
unfolding word_text hex_text
word_length w = refl

pub bytes_short : (s : List ℕ) → length (bytes_text s) ≤ 1 + length s * 2
unfolding bytes_text
bytes_short s =
    cases _ (eqb (length s) 0)
    (λ e. rw e (omega arith))
    (λ e. rw e (omega (arith, text_length s)))
