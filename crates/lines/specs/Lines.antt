-- The lines of an input, and that a reading in parts gives them: history-format.md, "a line ends with a line feed ..
-- a last line without one is a line".
use Rattle.std.specs.Prelude.{List, [], ◌∷◌, ◌++◌, ◌≡◌, refl, ℕ, ◌<◌, ◌≤◌, eqb, length}
use Rattle.std.proofs.Common.{append_assoc, append-nil, ap, sym, ◌∙◌, arith}
use Rattle.base.specs.Choice.{pick, cases}
use Rattle.base.specs.Times.{times}
use Rattle.text.specs.Cut.{place_of, head_of, tail_of, head_none, cut_whole, cut_none}
use Rattle.lines.specs.declared.Reading.{Reading}
use Rattle.lines.specs.Reading.{kept_of, kept_bytes, Holds}
use Rattle.lines.specs.Laws.{holds_more}

-- The lines from within a line whose bytes so far are given.
unfoldable pub lines_from : List ℕ → List ℕ → List (List ℕ)
lines_from line [] = pick (eqb (length line) 0) [] (line ∷ [])
lines_from line (b ∷ bs) = pick (eqb b 10) (line ∷ lines_from [] bs) (lines_from (line ++ (b ∷ [])) bs)

within_line : (s line rest : List ℕ) → times 10 s ≡ 0 → lines_from line (s ++ rest) ≡ lines_from (line ++ s) rest
unfolding lines_from times
within_line [] line rest h = rw append-nil
within_line (b ∷ bs) line rest h =
    cases _ (eqb b 10)
    (λ e. absurd (let z = rw e at h in omega arith))
    (λ e. let z = rw e at h in
    let a : (line ++ (b ∷ [])) ++ bs ≡ line ++ (b ∷ bs) = append_assoc line (b ∷ []) bs in
    rw e (rw a at (within_line bs (line ++ (b ∷ [])) rest (omega arith))))

line_end : (line rest : List ℕ) → lines_from line (10 ∷ rest) ≡ line ∷ lines_from [] rest
unfolding lines_from
line_end line rest = refl

-- A reading that holds the bytes of a line is fed a part of the input.
module _ (d : List ℕ) (r : Reading) (line input : List ℕ) (h : Holds d r line) where
  -- A LINE ENDS in the part: it is the next line of the input, the memory holds it, and the others follow.
  pub fed_line : (rest : List ℕ) → place_of 10 input < length input
      → (lines_from line (input ++ rest) ≡ (line ++ head_of 10 input) ∷ lines_from [] (tail_of 10 input ++ rest))
      × Holds (kept_bytes d r (head_of 10 input)) (kept_of d r (head_of 10 input)) (line ++ head_of 10 input)
  fed_line rest e =
      let w : input ++ rest ≡ head_of 10 input ++ (10 ∷ (tail_of 10 input ++ rest))
      = ap (λ (x : List ℕ). x ++ rest) (cut_whole 10 input e) ∙ append_assoc (head_of 10 input) (10 ∷ tail_of 10 input) rest in (
        ap (lines_from line) w ∙ within_line (head_of 10 input) line (10 ∷ (tail_of 10 input ++ rest)) (head_none 10 input) ∙ line_end (line ++ head_of 10 input) (tail_of 10 input ++ rest),
        holds_more d r (head_of 10 input) line h,
      )

  -- NO LINE ENDS in it: the line goes on, and the memory holds what it has by now.
  pub fed_part : (rest : List ℕ) → length input ≤ place_of 10 input
      → (lines_from line (input ++ rest) ≡ lines_from (line ++ input) rest)
      × Holds (kept_bytes d r (head_of 10 input)) (kept_of d r (head_of 10 input)) (line ++ input)
  fed_part rest e =
      let c = cut_none 10 input e in (
        within_line input line rest (ap (times 10) (sym c) ∙ head_none 10 input),
        rw c (holds_more d r input line h),
      )
