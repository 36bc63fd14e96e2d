-- Laws of the definitions of `Lines`: parts of an input one after the other write what the whole input does.
use Rattle.std.specs.Prelude.{List, [], ◌∷◌, ◌++◌, ◌≡◌, refl, ℕ, ◌+◌, ◌-◌, ◌*◌, ◌/◌, ◌<◌, ◌≤◌, min, eqb, length, take, get_or}
use Rattle.std.proofs.Common.{append_assoc, append-nil, arith, add-one, length-append, length-take-le}
use Rattle.std.proofs.Math.Path.{sym}
use Rattle.std.proofs.Math.Seq.{take-suc}
use Rattle.base.specs.Choice.{cases}
use Rattle.base.specs.Letters.{letter}
use Rattle.base.specs.Write.{over, over_none, over_length, over_over, take_over}
use Rattle.command.specs.Classify.{command_of}
use Rattle.command.specs.declared.Command.{Command}
use Rattle.command.specs.declared.Command.TheVariants.{Range, Pid, Unknown}
use Rattle.transcript.specs.declared.Line.{Line}
use Rattle.transcript.specs.Lines.{class_name, number_text, tail_text, kept_of, step_text, step_line, part_text, part_line, usable, Filled, Behind}

pub tail_length : (c : Command) → length (tail_text c) ≤ 9
unfolding tail_text class_name number_text
tail_length (Range k) = omega arith
tail_length (Pid p) = omega arith
tail_length Unknown = omega arith

pub step_length : (l : Line) (b : ℕ) → length (step_text l b) ≤ 9
unfolding step_text
step_length l b =
    cases _ (eqb b (letter "\n"))
    (λ e. rw e (tail_length (command_of (kept_of l))))
    (λ e. rw e (omega arith))

pub text_append : (l : Line) (xs ys : List ℕ) → part_text l (xs ++ ys) ≡ part_text l xs ++ part_text (part_line l xs) ys
unfolding part_text part_line
text_append l [] ys = refl
text_append l (b ∷ bs) ys = rw (text_append (step_line l b) bs ys) (sym (append_assoc (step_text l b) _ _))

pub line_append : (l : Line) (xs ys : List ℕ) → part_line l (xs ++ ys) ≡ part_line (part_line l xs) ys
unfolding part_line
line_append l [] ys = refl
line_append l (b ∷ bs) ys = line_append (step_line l b) bs ys

pub text_length : (l : Line) (xs : List ℕ) → length (part_text l xs) ≤ 9 * length xs
unfolding part_text
text_length l [] = omega arith
text_length l (b ∷ bs) =
    rw length-append (omega (arith, step_length l b, text_length (step_line l b) bs))

-- One byte more of an input.
module _ (l : Line) (xs : List ℕ) (i : ℕ) (h : i < length xs) where
  pub text_next : part_text l (take (i + 1) xs) ≡ part_text l (take i xs) ++ step_text (part_line l (take i xs)) (get_or xs i 0)
  unfolding part_text
  text_next = rw (add-one, take-suc xs i 0 h, text_append, append-nil)

  pub line_next : part_line l (take (i + 1) xs) ≡ step_line (part_line l (take i xs)) (get_or xs i 0)
  unfolding part_line
  line_next = rw (add-one, take-suc xs i 0 h, line_append)

module _ (l : Line) (input d : List ℕ) where
  pub behind_none : Behind l input d 0 l d
  unfolding part_line part_text
  behind_none = record { line_is = refl; out_is = sym (append-nil d) }

  module _ (i : ℕ) (now : Line) (out : List ℕ) (f : Behind l input d i now out) where
    -- there is room for one step more
    pub behind_room : (room : ℕ) → i < length input → length d ≤ room → 9 * (i + 1) ≤ room - length d → length out + 9 ≤ room
    behind_room room h g k =
        let n : length (take i input) ≡ i = length-take-le i input (omega arith) in
        let t = text_length l (take i input) in
        rw (f.out_is, length-append) (omega arith)

    pub behind_next : i < length input → Behind l input d (i + 1) (step_line now (get_or input i 0)) (out ++ step_text now (get_or input i 0))
    behind_next h =
        record {
          line_is = rw f.line_is (sym (line_next l input i h));
          out_is = rw (text_next l input i h, f.line_is, f.out_is) (append_assoc d _ _);
        }

module _ (l : Line) (input d : List ℕ) where
  pub filled_none : Filled l input d 0 l 0 d
  unfolding part_line part_text
  filled_none = record { line_is = refl; at_is = refl; out_is = sym (over_none d 0) }

  module _ (i : ℕ) (now : Line) (at : ℕ) (out : List ℕ) (f : Filled l input d i now at out) where
    written_le : i ≤ length input → length (part_text l (take i input)) ≤ 9 * i
    written_le h =
        let n : length (take i input) ≡ i = length-take-le i input h in
        let t = text_length l (take i input) in
        omega arith

    -- there is room for one step more
    pub filled_room : i < length input → 9 * (i + 1) ≤ length d → at + 9 ≤ length out
    filled_room h k =
        let w = written_le (omega arith) in
        let a = f.at_is in
        rw (f.out_is, over_length d 0 (part_text l (take i input)) (omega arith)) (omega arith)

    pub filled_next : i < length input → 9 * (i + 1) ≤ length d
        → Filled l input d (i + 1) (step_line now (get_or input i 0)) (at + length (step_text now (get_or input i 0))) (over out at (step_text now (get_or input i 0)))
    filled_next h k =
        let w = written_le (omega arith) in
        let p = part_text l (take i input) in
        let z : 0 + length p ≡ length p = omega arith in
        record {
          line_is = rw f.line_is (sym (line_next l input i h));
          at_is = rw (text_next l input i h, length-append, f.line_is, f.at_is);
          out_is = rw (text_next l input i h, f.line_is, f.at_is, f.out_is) (rw z at (over_over d 0 p (omega arith) (step_text (part_line l (take i input)) (get_or input i 0))));
        }

-- What is written lies within the room.
pub fed_within : (l : Line) (input : List ℕ) (room : ℕ) → length (part_text l (usable input room)) ≤ room
unfolding usable
fed_within l input room =
    let t = text_length l (take (min (length input) (room / 9)) input) in
    let n = length-take-le (min (length input) (room / 9)) input (omega arith) in
    omega arith

-- A text that was copied over the start of memory with room for it.
pub front_taken : (d s : List ℕ) → length s ≤ length d → take (length s) (over d 0 s) ≡ s
front_taken d s h = let z : 0 + length s ≡ length s = omega arith in rw z at (take_over d 0 s (omega arith))
