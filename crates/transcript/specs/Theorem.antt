-- The parts of an input, however it is cut, together write the output of the whole; and of the whole each line
-- is followed by its class and its number.
use mathlib.Core.List.{List, [], ◌∷◌, ◌++◌, append_assoc, append-nil}
use Rattle.std.specs.Prelude.{◌≡◌, ℕ, ◌≤◌, eqb, ltb, leb, length, take}
use Rattle.std.proofs.Math.Path.{refl, ap, sym}
use Rattle.std.proofs.Common.{◌∙◌, arith, add-one, length-append, length-take, length-set, take_all, take-suc-set, take-take, length-take-le, ltb-true, ltb-false, leb-true, leb-false, eqb-true, eq-eqb, ne_eqb}
use Rattle.std.proofs.lemmas.List.{take-append-le}
use Rattle.std.proofs.lemmas.Bool.{eqb-false}
use Rattle.base.specs.Choice.{cases}
use Rattle.base.specs.Letters.{letter}
use Rattle.base.specs.Times.{times}
use Rattle.command.specs.Classify.{command_of}
use Rattle.command.specs.Laws.{class_of_six}
use Rattle.transcript.specs.declared.Line.{Line}
use Rattle.transcript.specs.Lines.{tail_text, last_text, output, kept_of, keep_of, start_line, step_text, step_line, part_text, part_line, Sound, written, joined}

pub start_sound : Sound start_line
unfolding start_line
start_sound = record { whole = refl; within = omega arith }

kept_start : kept_of start_line ≡ []
unfolding kept_of start_line
kept_start = refl

keep_sound : (l : Line) (b : ℕ) → Sound l → Sound (keep_of l b)
unfolding keep_of
keep_sound l b s =
    cases _ (ltb l.kept 6)
    (λ e. let h = ltb-true l.kept 6 e in record { whole = rw e (length-set l.head l.kept b ∙ s.whole); within = rw e (omega arith) })
    (λ e. rw e s)

pub step_sound : (l : Line) (b : ℕ) → Sound l → Sound (step_line l b)
unfolding step_line
step_sound l b s = cases _ (eqb b (letter "\n")) (λ e. rw e start_sound) (λ e. rw e (keep_sound l b s))

-- Six bytes of a line and one more are, up to six, those of the line and one more.
six_more : (line t : List ℕ) → take 6 (line ++ t) ≡ take 6 (take 6 line ++ t)
six_more line t =
    cases _ (leb (length line) 6)
    (λ e. ap (λ (x : List ℕ). take 6 (x ++ t)) (sym (take_all 6 line (leb-true _ _ e))))
    (λ e. let h = leb-false (length line) 6 e in
    let n : length (take 6 line) ≡ 6 = length-take-le 6 line (omega arith) in
    rw (take-append-le 6 line t (omega arith), take-append-le 6 (take 6 line) t (omega arith)) (sym (take-take 6 6 line (omega arith))))

kept_more : (l : Line) (b : ℕ) → Sound l → kept_of (keep_of l b) ≡ take 6 (kept_of l ++ (b ∷ []))
unfolding kept_of keep_of
kept_more l b s =
    let w = s.whole in
    let v = s.within in
    let n : length (take l.kept l.head) ≡ l.kept = length-take-le l.kept l.head (omega arith) in
    cases _ (ltb l.kept 6)
    (λ e. let h = ltb-true l.kept 6 e in
    let long : length (take l.kept l.head ++ (b ∷ [])) ≤ 6 = rw length-append (omega arith) in
    rw (e, add-one, take-suc-set l.head l.kept b (omega arith)) (sym (take_all 6 _ long)))
    (λ e. let h = ltb-false l.kept 6 e in
    let k : l.kept ≡ 6 = omega arith in
    rw (e, take-append-le 6 (take l.kept l.head) (b ∷ []) (omega arith)) (sym (take_all 6 _ (omega arith))))

last_six : (line : List ℕ) → last_text line ≡ last_text (take 6 line)
unfolding last_text
last_six line =
    let n = length-take 6 line in
    cases _ (eqb (length line) 0)
    (λ e. let z = eqb-true (length line) 0 e in rw (e, eq-eqb (length (take 6 line)) 0 (omega arith)))
    (λ e. let z : (length line ≡ 0 → ⊥) = eqb-false (length line) 0 e in
    rw (e, ne_eqb (length (take 6 line)) 0 (λ y. z (omega arith))) (ap tail_text (class_of_six line)))

output_six : (input line : List ℕ) → output line input ≡ output (take 6 line) input
unfolding output
output_six [] line = last_six line
output_six (b ∷ bs) line =
    let more = output_six bs (line ++ (b ∷ [])) ∙ ap (λ (x : List ℕ). output x bs) (six_more line (b ∷ [])) ∙ sym (output_six bs (take 6 line ++ (b ∷ []))) in
    rw (class_of_six line, more)

module _ (ys : List ℕ) where
  pub part_output : (xs : List ℕ) (l : Line) → Sound l → output (kept_of l) (xs ++ ys) ≡ part_text l xs ++ output (kept_of (part_line l xs)) ys
  unfolding output part_text part_line step_text step_line
  part_output [] l s = refl
  part_output (b ∷ bs) l s =
      cases _ (eqb b (letter "\n"))
      (λ e. rw e (ap (λ (x : List ℕ). tail_text (command_of (kept_of l)) ++ x) (ap (λ (x : List ℕ). output x (bs ++ ys)) (sym kept_start) ∙ part_output bs start_line start_sound)
      ∙ sym (append_assoc (tail_text (command_of (kept_of l))) _ _)))
      (λ e. rw e (ap (λ (x : List ℕ). b ∷ x)
      (output_six (bs ++ ys) (kept_of l ++ (b ∷ []))
      ∙ ap (λ (x : List ℕ). output x (bs ++ ys)) (sym (kept_more l b s))
      ∙ part_output bs (keep_of l b) (keep_sound l b s))))

part_sound : (xs : List ℕ) (l : Line) → Sound l → Sound (part_line l xs)
unfolding part_line
part_sound [] l s = s
part_sound (b ∷ bs) l s = part_sound bs (step_line l b) (step_sound l b s)

parts_from : (ps : List (List ℕ)) (l : Line) → Sound l → written l ps ≡ output (kept_of l) (joined ps)
unfolding written joined output
parts_from [] l s = refl
parts_from (p ∷ ps) l s =
    ap (λ (x : List ℕ). part_text l p ++ x) (parts_from ps (part_line l p) (part_sound p l s)) ∙ sym (part_output (joined ps) p l s)

-- THE PROGRAM: however the input is cut into parts, what is written is the output for the whole of it.
pub parts_output : (ps : List (List ℕ)) → written start_line ps ≡ output [] (joined ps)
parts_output ps = parts_from ps start_line start_sound ∙ ap (λ (x : List ℕ). output x (joined ps)) kept_start

line_from : (line pre rest : List ℕ) → times (letter "\n") line ≡ 0
    → output pre (line ++ (letter "\n" ∷ rest)) ≡ line ++ (tail_text (command_of (pre ++ line)) ++ output [] rest)
unfolding output times
line_from [] pre rest h = rw append-nil
line_from (b ∷ bs) pre rest h =
    cases _ (eqb b (letter "\n"))
    (λ e. absurd (let z = rw e at h in omega arith))
    (λ e. let z = rw e at h in
    let a : (pre ++ (b ∷ [])) ++ bs ≡ pre ++ (b ∷ bs) = append_assoc pre (b ∷ []) bs in
    rw e (ap (λ (x : List ℕ). b ∷ x) (rw a at (line_from bs (pre ++ (b ∷ [])) rest (omega arith)))))

-- EACH LINE, of whatever length and bytes, stands in the output as it is, with its class and its number behind it.
pub line_output : (line rest : List ℕ) → times (letter "\n") line ≡ 0
    → output [] (line ++ (letter "\n" ∷ rest)) ≡ line ++ (tail_text (command_of line) ++ output [] rest)
line_output line rest h = line_from line [] rest h
