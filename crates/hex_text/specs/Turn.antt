-- Bytes in the place of the text that they were read from.
use Rattle.std.specs.Prelude.{true, false, List, [], ◌∷◌, ◌++◌, ◌≡◌, refl, ℕ, zero, suc, ◌+◌, ◌-◌, ◌*◌, ◌/◌, ◌%◌, ◌≤◌, eqb, length, get_or, take, drop, Option, Some, None}
use Rattle.std.proofs.Common.{append-nil, ap, sym, ◌∙◌, arith, length-drop, drop_of_length-le, take-add, drop-drop, length-take-le, eq-eqb, ne_eqb}
use Rattle.std.proofs.Math.Seq.{take-nil, drop-nil, drop-append_seam}
use Rattle.base.specs.Both.{both, both_left, both_right}
use Rattle.base.specs.Choice.{cases}
use Rattle.base.specs.Letters.{letter}
use Rattle.base.specs.Write.{over, over_none, over_over}
use Rattle.hex_text.specs.Pairs.{is_hex, pair_of, hexes, is_pairs, pairs, turn_of, turned_bytes, command_turn, command_text}
use Rattle.hex_text.specs.Laws.{pairs_length}

-- The pairs of a part of the text are that part of its bytes.
pairs_drop : (i : ℕ) (s : List ℕ) → pairs (drop (2 * i) s) ≡ drop i (pairs s)
unfolding pairs
pairs_drop zero s = refl
pairs_drop (suc i) [] = rw (drop-nil {A = ℕ} (2 * suc i)) refl
pairs_drop (suc i) (h ∷ []) = let z : 2 * suc i ≡ suc (suc (2 * i)) = omega arith in rw (z, drop-nil {A = ℕ} (suc (2 * i))) refl
pairs_drop (suc i) (h ∷ l ∷ s) = let z : 2 * suc i ≡ suc (suc (2 * i)) = omega arith in rw z (pairs_drop i s)

pairs_take : (m : ℕ) (s : List ℕ) → pairs (take (2 * m) s) ≡ take m (pairs s)
unfolding pairs
pairs_take zero s = refl
pairs_take (suc m) [] = rw (take-nil {A = ℕ} (2 * suc m)) refl
pairs_take (suc m) (h ∷ []) = let z : 2 * suc m ≡ suc (suc (2 * m)) = omega arith in rw (z, take-nil {A = ℕ} (suc (2 * m))) refl
pairs_take (suc m) (h ∷ l ∷ s) = let z : 2 * suc m ≡ suc (suc (2 * m)) = omega arith in rw z (ap (λ (x : List ℕ). pair_of h l ∷ x) (pairs_take m s))

hexes_drop : (i : ℕ) (s : List ℕ) → hexes s ≡ true → hexes (drop i s) ≡ true
unfolding hexes
hexes_drop zero s e = e
hexes_drop (suc i) [] e = refl
hexes_drop (suc i) (b ∷ s) e = hexes_drop i s (both_right (is_hex b) (hexes s) e)

hexes_take : (m : ℕ) (s : List ℕ) → hexes s ≡ true → hexes (take m s) ≡ true
unfolding hexes
hexes_take zero s e = refl
hexes_take (suc m) [] e = refl
hexes_take (suc m) (b ∷ s) e = rw (both_left (is_hex b) (hexes s) e) (hexes_take m s (both_right (is_hex b) (hexes s) e))

drop_over : (d t : List ℕ) → drop (length t) (over d 0 t) ≡ drop (length t) d
unfolding over
drop_over d t = let z : 0 + length t ≡ length t = omega arith in rw z (drop-append_seam t (drop (length t) d))

-- A block: m pairs of d from the i-th on, once the bytes of those before it stand in s.
module _ (d : List ℕ) (i m : ℕ) (fits : i + m ≤ length d / 2) where
  abbrev pub block : List ℕ
  block = take (2 * m) (drop (2 * i) d)

  pub block_bytes : pairs block ≡ take m (drop i (pairs d))
  block_bytes = pairs_take m (drop (2 * i) d) ∙ ap (take m) (pairs_drop i d)

  pub block_length : length block ≡ 2 * m
  block_length = length-take-le (2 * m) (drop (2 * i) d) (omega (arith, length-drop (2 * i) d))

  pub block_pairs : is_pairs d ≡ true → is_pairs block ≡ true
  unfolding is_pairs
  block_pairs e =
      let h = both_right (eqb (length d % 2) 0) (hexes d) e in
      both (eqb (length block % 2) 0) (hexes block) (eq-eqb (length block % 2) 0 (omega (arith, block_length))) (hexes_take (2 * m) (drop (2 * i) d) (hexes_drop (2 * i) d h))

  module _ (s : List ℕ) (e : s ≡ over d 0 (take i (pairs d))) where
    written : length (take i (pairs d)) ≡ i
    written = length-take-le i (pairs d) (omega (arith, pairs_length d))

    pub block_left : take (2 * (i + m) - 2 * i) (drop (2 * i) s) ≡ block
    block_left =
        let z : 2 * (i + m) - 2 * i ≡ 2 * m = omega arith in
        let y : i + i ≡ 2 * i = omega arith in
        let b : drop i s ≡ drop i d = rw e (rw written at (drop_over d (take i (pairs d)))) in
        rw z (ap (take (2 * m)) (ap (λ (x : ℕ). drop x s) (sym y) ∙ sym (drop-drop i i s) ∙ ap (drop i) b ∙ drop-drop i i d ∙ ap (λ (x : ℕ). drop x d) y))

    pub block_next : over s i (pairs block) ≡ over d 0 (take (i + m) (pairs d))
    block_next =
        let z : 0 + length (take i (pairs d)) ≡ i = omega (arith, written) in
        let o = rw z at (over_over d 0 (take i (pairs d)) (omega (arith, written, pairs_length d)) (pairs block)) in
        ap (λ (x : List ℕ). over x i (pairs block)) e ∙ o ∙ ap (over d 0) (ap (λ (x : List ℕ). take i (pairs d) ++ x) block_bytes ∙ sym (take-add i m (pairs d)))

-- The cases of a text.
module _ (s : List ℕ) where
  pub turned_bad : is_pairs s ≡ false → (None ≡ turn_of s) × (s ≡ over s 0 (turned_bytes s))
  unfolding turn_of turned_bytes
  turned_bad e = (rw e, rw e (sym (over_none s 0)))

  pub turned_good : (n : ℕ) (t : List ℕ) → is_pairs s ≡ true → n ≡ length s → t ≡ over s 0 (pairs s)
      → (Some (n / 2) ≡ turn_of s) × (t ≡ over s 0 (turned_bytes s))
  unfolding turn_of turned_bytes
  turned_good n t e f g = (rw (e, f), rw e g)

-- The cases of a command, by its first byte. The bytes behind the mark stay where they are plain.
pub turned_none : (s : List ℕ) → length s ≡ 0 → (None ≡ command_turn s) × (s ≡ over s 1 (command_text s))
unfolding command_turn command_text
turned_none [] h = (refl, sym (over_none [] 1))
turned_none (b ∷ s) h = absurd (omega arith)

pub turned_plain : (s : List ℕ) → (length s ≡ 0 → ⊥) → get_or s 0 0 ≡ letter "'" → (Some (length s - 1) ≡ command_turn s) × (s ≡ over s 1 (command_text s))
unfolding command_turn command_text over
turned_plain [] h e = absurd (h refl)
turned_plain (b ∷ s) h e =
    let z : length (b ∷ s) - 1 ≡ length s = omega arith in
    let d : drop (1 + length s) (b ∷ s) ≡ [] = drop_of_length-le (b ∷ s) {i = 1 + length s} (omega arith) in
    (rw (z, eq-eqb b (letter "'") e), rw (eq-eqb b (letter "'") e, d, append-nil))

pub turned_pairs : (s : List ℕ) → (length s ≡ 0 → ⊥) → (get_or s 0 0 ≡ letter "'" → ⊥) → get_or s 0 0 ≡ letter "x"
    → (turn_of (drop 1 s) ≡ command_turn s) × (turned_bytes (drop 1 s) ≡ command_text s)
unfolding command_turn command_text
turned_pairs [] h k e = absurd (h refl)
turned_pairs (b ∷ s) h k e = (rw (ne_eqb b (letter "'") k, eq-eqb b (letter "x") e), rw (ne_eqb b (letter "'") k, eq-eqb b (letter "x") e))

pub turned_other : (s : List ℕ) → (length s ≡ 0 → ⊥) → (get_or s 0 0 ≡ letter "'" → ⊥) → (get_or s 0 0 ≡ letter "x" → ⊥)
    → (None ≡ command_turn s) × (s ≡ over s 1 (command_text s))
unfolding command_turn command_text
turned_other [] h k e = absurd (h refl)
turned_other (b ∷ s) h k e = (rw (ne_eqb b (letter "'") k, ne_eqb b (letter "x") e), rw (ne_eqb b (letter "'") k, ne_eqb b (letter "x") e) (sym (over_none (b ∷ s) 1)))

-- The count is that of the bytes, of which a bad text has none; they are no more than the text has, behind a command's mark.
abbrev pub Speaks : Option ℕ → List ℕ → Type 0
Speaks (Some n) t = n ≡ length t
Speaks None t = t ≡ []

pub turn_speaks : (s : List ℕ) → Speaks (turn_of s) (turned_bytes s)
unfolding turn_of turned_bytes
turn_speaks s = cases _ (is_pairs s) (λ e. rw e (sym (pairs_length s))) (λ e. rw e refl)

pub turn_short : (s : List ℕ) → length (turned_bytes s) ≤ length s
unfolding turned_bytes
turn_short s = cases _ (is_pairs s) (λ e. rw e (omega (arith, pairs_length s))) (λ e. rw e (omega arith))

pub command_speaks : (s : List ℕ) → Speaks (command_turn s) (command_text s)
unfolding command_turn command_text
command_speaks [] = refl
command_speaks (b ∷ s) =
    cases _ (eqb b (letter "'"))
    (λ e. rw e refl)
    (λ e. rw e (cases _ (eqb b (letter "x")) (λ f. rw f (turn_speaks s)) (λ f. rw f refl)))

pub command_short : (b : ℕ) (s : List ℕ) → length (command_text (b ∷ s)) ≤ length s
unfolding command_text
command_short b s =
    cases _ (eqb b (letter "'"))
    (λ e. rw e (omega arith))
    (λ e. rw e (cases _ (eqb b (letter "x")) (λ f. rw f (turn_short s)) (λ f. rw f (omega arith))))
