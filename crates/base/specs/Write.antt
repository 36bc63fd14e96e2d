-- Bytes written into lent memory, and what of it stays.
use mathlib.Core.List.{List, [], ◌∷◌, ◌++◌, append_assoc, append-nil}
use Rattle.std.specs.Prelude.{◌≡◌, ℕ, ◌+◌, ◌-◌, ◌<◌, ◌≤◌, set}
use Rattle.std.proofs.Math.Path.{ap, sym}
use Rattle.std.proofs.Common.{◌∙◌, add-one, length-drop, take-append-drop, drop_of_length-le, length-take-le, take_all, take_at}
use native.Mathlib.Omega.{arith}
use Rattle.std.proofs.Math.ListN.{length, take, drop, length-append, length-take}
use Rattle.std.proofs.Math.Seq.{take-length, drop-append-add, drop-drop}
use Rattle.std.proofs.lemmas.List.{set_split}

-- The memory d with the text s written from the place at; before and behind it d is as it was.
unfoldable pub over : List ℕ → ℕ → List ℕ → List ℕ
over d at s = take at d ++ (s ++ drop (at + length s) d)

module _ (d : List ℕ) (at : ℕ) where
  pub over_none : over d at [] ≡ d
  unfolding over
  over_none = let z : at + 0 ≡ at = omega arith in rw z (take-append-drop at d)

  pub over_one : (b : ℕ) → at < length d → over d at (b ∷ []) ≡ set d at b
  unfolding over
  over_one b h = rw (set_split d at b h, add-one)

  -- what is written through a part that starts at the place
  pub over_part : (s : List ℕ) → over d at s ≡ take at d ++ over (drop at d) 0 s
  unfolding over
  over_part s = let z : 0 + length s ≡ length s = omega arith in rw (z, drop-drop)

  module _ (s : List ℕ) (fits : at + length s ≤ length d) where
    front : length (take at d ++ s) ≡ at + length s
    front = rw (length-append, length-take-le at d (omega arith))

    pub over_length : length (over d at s) ≡ length d
    unfolding over
    over_length = simp (length-append, length-take, length-drop) (omega arith)

    split : over d at s ≡ (take at d ++ s) ++ drop (at + length s) d
    unfolding over
    split = sym (append_assoc (take at d) s (drop (at + length s) d))

    pub take_over : take (at + length s) (over d at s) ≡ take at d ++ s
    take_over = rw split (take_at (take at d ++ s) _ (at + length s) front)

    -- two texts one behind the other are one text
    pub over_over : (t : List ℕ) → over (over d at s) (at + length s) t ≡ over d at (s ++ t)
    unfolding over
    over_over t =
        let e : (at + length s) + length t ≡ length (take at d ++ s) + length t = ap (λ (n : ℕ). n + length t) (sym front) in
        let z : at + (length s + length t) ≡ (at + length s) + length t = omega arith in
        let b : drop ((at + length s) + length t) (over d at s) ≡ drop (at + length (s ++ t)) d
        = rw (split, e, drop-append-add, drop-drop, length-append, z) in
        ap (λ (x : List ℕ). x ++ (t ++ drop ((at + length s) + length t) (over d at s))) take_over
        ∙ ap (λ (x : List ℕ). (take at d ++ s) ++ (t ++ x)) b
        ∙ append_assoc (take at d) s (t ++ drop (at + length (s ++ t)) d)
        ∙ ap (λ (x : List ℕ). take at d ++ x) (sym (append_assoc s t (drop (at + length (s ++ t)) d)))

-- A copy of s into the start of d, as `bytes::copy` says it.
pub over_copy : (s d : List ℕ) → take (length s) s ++ drop (length s) d ≡ over d 0 s
unfolding over
over_copy s d = let z : 0 + length s ≡ length s = omega arith in rw (z, take-length s)

-- A text written through `&mut d[at..]`, once that part has come back as p.
pub over_lent : (d : List ℕ) (at : ℕ) (s p : List ℕ) → at ≤ length d → p ≡ over (take (length d - at) (drop at d)) 0 s
    → take at d ++ (p ++ drop (length d - at) (drop at d)) ≡ over d at s
over_lent d at s p h e =
    let n : length (drop at d) ≡ length d - at = length-drop at d in
    let t : take (length d - at) (drop at d) ≡ drop at d = take_all (length d - at) (drop at d) (omega arith) in
    let w : p ≡ over (drop at d) 0 s = rw t at e in
    rw (drop_of_length-le (drop at d) {i = length d - at} (omega arith), append-nil, w) (sym (over_part d at s))

-- A text written one byte at a time.
pub over_cons : (d : List ℕ) (at b : ℕ) (s : List ℕ) → at < length d → over d at (b ∷ s) ≡ over (set d at b) (at + 1) s
over_cons d at b s h = sym (ap (λ (x : List ℕ). over x (at + 1) s) (sym (over_one d at b h)) ∙ over_over d at (b ∷ []) (omega arith) s)
