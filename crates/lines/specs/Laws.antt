-- Laws of the definitions of `Reading`. THE LINE: in whatever parts its bytes come, the memory holds as many of them
-- as it has room for, and the line is long exactly where it has more.
use Rattle.std.specs.Prelude.{true, false, not, List, [], ◌∷◌, ◌++◌, ◌≡◌, refl, ℕ, zero, suc, ◌+◌, ◌-◌, ◌<◌, ◌≤◌, min, eqb, leb, ltb, take, get_or}
use Rattle.std.proofs.Common.{append-nil, ap, sym, ◌∙◌, length-append, take_all}
use native.Mathlib.Omega.{arith}
use Rattle.std.proofs.Math.ListN.{length, length-take}
use Rattle.std.proofs.Math.Seq.{take-nil, take-append-add}
use Rattle.std.proofs.lemmas.List.{take-append-le}
use borrow.Author.Tests.{leb-true, leb-false, le-leb, lt-leb, lt-ltb, le-ltb, ltb-true, ltb-false}
use Rattle.base.specs.Choice.{cases}
use Rattle.base.specs.Write.{over, over_length, take_over}
use Rattle.text.specs.Cut.{place_of, head_of, place_le}
use Rattle.lines.specs.declared.Reading.{Reading}
use Rattle.lines.specs.declared.Fed.{Fed}
use Rattle.lines.specs.Reading.{start_reading, place_in, kept_of, kept_bytes, fed_of, answers_of, Holds}

-- What of the bytes s has room.
roomy : (d : List ℕ) (r : Reading) (s : List ℕ) → place_in d r + length (take (length d - place_in d r) s) ≤ length d
unfolding place_in
roomy d r s = omega (arith, length-take (length d - place_in d r) s)

pub kept_length : (d : List ℕ) (r : Reading) (s : List ℕ) → length (kept_bytes d r s) ≡ length d
unfolding kept_bytes
kept_length d r s = over_length d (place_in d r) (take (length d - place_in d r) s) (roomy d r s)

pub kept_within : (d : List ℕ) (r : Reading) (s : List ℕ) → (kept_of d r s).len ≤ length d
unfolding kept_of
kept_within d r s =
    cases _ (leb (place_in d r + length s) (length d))
    (λ e. rw e (leb-true _ _ e))
    (λ e. rw e (omega arith))

-- A part of the input is used, and never more than there is; the line lies within its memory.
module _ (d : List ℕ) (r : Reading) (input : List ℕ) where
  some_used : 0 < length input → 0 < (fed_of d r input).used
  unfolding fed_of
  some_used h =
      cases _ (ltb (place_of 10 input) (length input))
      (λ e. rw e (omega arith))
      (λ e. let n = ltb-false (place_of 10 input) (length input) e in rw e (omega arith))

  all_used : (fed_of d r input).used ≤ length input
  unfolding fed_of
  all_used =
      let n = place_le 10 input in
      cases _ (ltb (place_of 10 input) (length input))
      (λ e. let m = ltb-true (place_of 10 input) (length input) e in rw e (omega arith))
      (λ e. rw e (omega arith))

  line_within : (fed_of d r input).reading.len ≤ length d
  unfolding fed_of
  line_within = kept_within d r (head_of 10 input)

  module _ (f : Fed) (e : f ≡ fed_of d r input) where
    pub used_some : 0 < length input → 0 < f.used
    used_some h = rw e (some_used h)

    pub used_within : f.used ≤ length input
    used_within = rw e all_used

    pub fed_within : f.reading.len ≤ length d
    fed_within = rw e line_within

pub holds_start : (d : List ℕ) → Holds d start_reading []
unfolding start_reading
holds_start d = record { len_is = omega arith; long_is = sym (le-ltb (length d) 0 (omega arith)); text_is = sym (take-nil (length d)) }

-- The start of two texts one behind the other.
take_both : (n : ℕ) (s t : List ℕ) → take n (s ++ t) ≡ take n s ++ take (n - min (length s) n) t
take_both n s t =
    cases _ (leb (length s) n)
    (λ e. let h = leb-true (length s) n e in
    let z : length s + (n - length s) ≡ n = omega arith in
    let m : n - min (length s) n ≡ n - length s = omega arith in
    rw (m, take_all n s h) (rw z at (take-append-add s t (n - length s))))
    (λ e. let h = leb-false (length s) n e in
    let m : n - min (length s) n ≡ 0 = omega arith in
    rw (m, take-append-le n s t (omega arith), append-nil))

module _ (d : List ℕ) (r : Reading) (t : List ℕ) where
  kept_len : (kept_of d r t).len ≡ place_in d r + length (take (length d - place_in d r) t)
  unfolding kept_of place_in
  kept_len =
      let n = length-take (length d - place_in d r) t in
      cases _ (leb (place_in d r + length t) (length d))
      (λ e. let h = leb-true (place_in d r + length t) (length d) e in rw e (omega arith))
      (λ e. let h = leb-false (place_in d r + length t) (length d) e in rw e (omega arith))

  kept_text : take (kept_of d r t).len (kept_bytes d r t) ≡ take (place_in d r) d ++ take (length d - place_in d r) t
  unfolding kept_bytes
  kept_text = rw kept_len (take_over d (place_in d r) (take (length d - place_in d r) t) (roomy d r t))

  module _ (s : List ℕ) (h : Holds d r s) where
    place_is : place_in d r ≡ min (length s) (length d)
    unfolding place_in
    place_is = omega (arith, h.len_is)

    kept_long : (kept_of d r t).long ≡ ltb (length d) (length s + length t)
    unfolding kept_of
    kept_long =
        let k = place_is in
        cases _ (leb (place_in d r + length t) (length d))
        (λ e. let g = leb-true (place_in d r + length t) (length d) e in
        rw (e, h.long_is) (cases _ (ltb (length d) (length s))
        (λ f. let l = ltb-true (length d) (length s) f in rw (f, lt-ltb (length d) (length s + length t) (omega arith)))
        (λ f. let l = ltb-false (length d) (length s) f in rw (f, le-ltb (length d) (length s + length t) (omega arith)))))
        (λ e. let g = leb-false (place_in d r + length t) (length d) e in rw (e, lt-ltb (length d) (length s + length t) (omega arith)))

    -- however the line's bytes are cut
    pub holds_more : Holds (kept_bytes d r t) (kept_of d r t) (s ++ t)
    holds_more =
        let k = place_is in
        let n = length-take (length d - place_in d r) t in
        let l : place_in d r ≡ r.len = omega (arith, h.len_is) in
        record {
          len_is = rw (kept_len, kept_length d r t, length-append) (omega arith);
          long_is = rw (kept_length d r t, length-append) kept_long;
          text_is = rw (kept_length d r t) (kept_text ∙ ap (λ (x : List ℕ). x ++ take (length d - place_in d r) t) (ap (λ (m : ℕ). take m d) l ∙ h.text_is)
              ∙ ap (λ (m : ℕ). take (length d) s ++ take (length d - m) t) k ∙ sym (take_both (length d) s t));
        }

-- Whether a line is answered is told by what the memory holds of it.
pub answers_held : (n : ℕ) (s : List ℕ) → 0 < n → answers_of (take n s) ≡ answers_of s
unfolding answers_of
answers_held n [] h = ap answers_of (take-nil n)
answers_held zero (b ∷ s) h = absurd (omega arith)
answers_held (suc n) (b ∷ s) h = refl

-- The cases of the bytes that are kept and of the lines that are answered.
module _ (d : List ℕ) (r : Reading) (s : List ℕ) (at : ℕ) (e : at ≡ min r.len (length d)) where
  pub kept_part : length d - at < length s → kept_of d r s ≡ record { len = at + (length d - at); long = true }
  unfolding kept_of place_in
  kept_part h =
      let z : at + (length d - at) ≡ length d = omega arith in
      rw (← e, lt-leb (at + length s) (length d) (omega arith), z)

  pub kept_all : length s ≤ length d - at → kept_of d r s ≡ record { len = at + length s; long = r.long }
  unfolding kept_of place_in
  kept_all h = rw (← e, le-leb (at + length s) (length d) (omega arith))

  pub bytes_part : kept_bytes d r s ≡ over d at (take (length d - at) s)
  unfolding kept_bytes place_in
  bytes_part = rw (← e)

  pub bytes_all : length s ≤ length d - at → kept_bytes d r s ≡ over d at s
  bytes_all h = bytes_part ∙ ap (over d at) (take_all (length d - at) s h)

pub answers_none : (s : List ℕ) → length s ≡ 0 → answers_of s ≡ false
unfolding answers_of
answers_none [] h = refl
answers_none (b ∷ s) h = absurd (omega arith)

pub answers_some : (s : List ℕ) → (length s ≡ 0 → ⊥) → answers_of s ≡ not (eqb (get_or s 0 0) 35)
unfolding answers_of
answers_some [] h = absurd (h refl)
answers_some (b ∷ s) h = refl
