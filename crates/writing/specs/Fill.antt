-- Texts written one behind the other into lent memory, as far as there is room.
use Rattle.std.specs.Prelude.{List, [], ◌∷◌, ◌++◌, ◌≡◌, refl, ℕ, ◌+◌, ◌-◌, ◌<◌, ◌≤◌, leb, take, set}
use Rattle.std.proofs.Math.Path.{ap}
use Rattle.std.proofs.Common.{sym, ◌∙◌, length-append, length-take-le}
use native.Mathlib.Omega.{arith}
use Rattle.std.proofs.Math.ListN.{length, length-take}
use Rattle.std.proofs.Math.Seq.{take_all, take-append-le, take-append-add, take-nil}
use borrow.Author.Tests.{leb-true, leb-false}
use Rattle.base.specs.Choice.{cases}
use Rattle.base.specs.Write.{over, over_none, over_one, over_length, over_over, take_over}
use Rattle.writing.specs.Added.{added}

-- What of the text s there is room for, from the place at on.
unfoldable pub cut_of : List ℕ → ℕ → List ℕ → List ℕ
cut_of d at s = take (length d - at) s

-- The memory with it written, and the place behind it.
unfoldable pub fill_of : List ℕ → ℕ → List ℕ → List ℕ
fill_of d at s = over d at (cut_of d at s)

unfoldable pub fill_end : List ℕ → ℕ → List ℕ → ℕ
fill_end d at s = at + length (cut_of d at s)

-- The text s was written into d from the place at on: the memory is out then, and the place behind the text is r.
pub record Wrote (d : List ℕ) (at : ℕ) (s out : List ℕ) (r : ℕ) : Type 0 where
  pub place_is : r ≡ fill_end d at s
  pub out_is : out ≡ fill_of d at s

module _ (d : List ℕ) (at : ℕ) (s : List ℕ) where
  -- Where there is room for the whole text, the whole text is written.
  pub cut_fits : at + length s ≤ length d → cut_of d at s ≡ s
  unfolding cut_of
  cut_fits h = take_all (length d - at) s (omega arith)

  pub fill_fits : at + length s ≤ length d → fill_of d at s ≡ over d at s
  unfolding fill_of
  fill_fits h = rw (cut_fits h)

  pub end_fits : at + length s ≤ length d → fill_end d at s ≡ at + length s
  unfolding fill_end
  end_fits h = rw (cut_fits h)

  -- Past the end of the memory nothing is written.
  cut_past : length d ≤ at → cut_of d at s ≡ []
  unfolding cut_of
  cut_past h = let z : length d - at ≡ 0 = omega arith in rw z

  fill_past : length d ≤ at → fill_of d at s ≡ d
  unfolding fill_of
  fill_past h = rw (cut_past h) (over_none d at)

  end_past : length d ≤ at → fill_end d at s ≡ at
  unfolding fill_end
  end_past h = rw (cut_past h) (omega arith)

  cut_within : at ≤ length d → at + length (cut_of d at s) ≤ length d
  unfolding cut_of
  cut_within h = rw (length-take (length d - at) s) (omega arith)

  fill_length : at ≤ length d → length (fill_of d at s) ≡ length d
  unfolding fill_of
  fill_length h = over_length d at (cut_of d at s) (cut_within h)

  pub wrote_past : length d ≤ at → Wrote d at s d at
  wrote_past h = record { place_is = sym (end_past h); out_is = sym (fill_past h) }

  -- The memory up to the place behind the text is the text of so many bytes with s behind it.
  pub added_filled : at ≤ length d → take (fill_end d at s) (fill_of d at s) ≡ added (length d) (take at d) s
  unfolding fill_of fill_end cut_of added
  added_filled h =
      let l : length (take at d) ≡ at = length-take-le at d h in
      rw l (take_over d at (take (length d - at) s) (cut_within h))

pub wrote_none : (d : List ℕ) (at : ℕ) → Wrote d at [] d at
unfolding fill_end fill_of cut_of
wrote_none d at =
    record {
      place_is = rw (take-nil (length d - at)) (omega arith);
      out_is = rw (take-nil (length d - at)) (sym (over_none d at));
    }

pub wrote_one : (d : List ℕ) (at b : ℕ) → at < length d → Wrote d at (b ∷ []) (set d at b) (at + 1)
wrote_one d at b h =
    record {
      place_is = sym (end_fits d at (b ∷ []) (omega arith));
      out_is = sym (fill_fits d at (b ∷ []) (omega arith) ∙ over_one d at b h);
    }

-- Two texts one behind the other are one text.
module _ (d : List ℕ) (at : ℕ) (s t : List ℕ) where
  cut_two : at + length s ≤ length d → cut_of d at (s ++ t) ≡ s ++ cut_of d (at + length s) t
  unfolding cut_of
  cut_two h =
      let z : length d - at ≡ length s + (length d - (at + length s)) = omega arith in
      rw z (take-append-add s t (length d - (at + length s)))

  cut_first : length d < at + length s → cut_of d at (s ++ t) ≡ cut_of d at s
  unfolding cut_of
  cut_first h = take-append-le (length d - at) s t (omega arith)

  -- the first text fits
  fit_end : at + length s ≤ length d → length (over d at s) ≡ length d → fill_end (over d at s) (at + length s) t ≡ fill_end d at (s ++ t)
  unfolding fill_end cut_of
  fit_end h l =
      let z = ap length (cut_two h) in
      rw (l, z, length-append) (omega arith)

  fit_out : at + length s ≤ length d → length (over d at s) ≡ length d → fill_of (over d at s) (at + length s) t ≡ fill_of d at (s ++ t)
  unfolding fill_of cut_of
  fit_out h l = rw (l, cut_two h) (over_over d at s h (take (length d - (at + length s)) t))

  -- it does not: the memory is full behind it, and nothing more is written
  full : length d < at + length s → length (fill_of d at s) ≤ fill_end d at s
  unfolding fill_end cut_of
  full h =
      cases _ (leb at (length d))
      (λ e. let k = leb-true at (length d) e in
      let n = length-take (length d - at) s in
      rw (fill_length d at s k) (omega arith))
      (λ e. let k = leb-false at (length d) e in
      rw (fill_past d at s (omega arith)) (omega arith))

  short_end : length d < at + length s → fill_end (fill_of d at s) (fill_end d at s) t ≡ fill_end d at (s ++ t)
  unfolding fill_end
  short_end h = end_past (fill_of d at s) (fill_end d at s) t (full h) ∙ rw (cut_first h)

  short_out : length d < at + length s → fill_of (fill_of d at s) (fill_end d at s) t ≡ fill_of d at (s ++ t)
  unfolding fill_of
  short_out h = fill_past (fill_of d at s) (fill_end d at s) t (full h) ∙ rw (cut_first h)

  two_end : fill_end (fill_of d at s) (fill_end d at s) t ≡ fill_end d at (s ++ t)
  two_end =
      cases _ (leb (at + length s) (length d))
      (λ e. let h = leb-true (at + length s) (length d) e in
      rw (fill_fits d at s h, end_fits d at s h) (fit_end h (over_length d at s h)))
      (λ e. short_end (leb-false (at + length s) (length d) e))

  two_out : fill_of (fill_of d at s) (fill_end d at s) t ≡ fill_of d at (s ++ t)
  two_out =
      cases _ (leb (at + length s) (length d))
      (λ e. let h = leb-true (at + length s) (length d) e in
      rw (fill_fits d at s h, end_fits d at s h) (fit_out h (over_length d at s h)))
      (λ e. short_out (leb-false (at + length s) (length d) e))

pub wrote_then : {d o p : List ℕ} {at m n : ℕ} {s t : List ℕ} → Wrote d at s o m → Wrote o m t p n → Wrote d at (s ++ t) p n
wrote_then {d} {o} {p} {at} {m} {n} {s} {t} w v =
    record {
      place_is = v.place_is ∙ rw (w.place_is, w.out_is) (two_end d at s t);
      out_is = v.out_is ∙ rw (w.place_is, w.out_is) (two_out d at s t);
    }

-- A text that is written part by part: what is left to write is written from here.
pub record Left (d : List ℕ) (at : ℕ) (whole out : List ℕ) (place : ℕ) (left : List ℕ) : Type 0 where
  pub place_is : fill_end d at whole ≡ fill_end out place left
  pub out_is : fill_of d at whole ≡ fill_of out place left

pub left_all : (d : List ℕ) (at : ℕ) (s : List ℕ) → Left d at s d at s
left_all d at s = record { place_is = refl; out_is = refl }

pub left_next : {d out o : List ℕ} {at place m : ℕ} {whole left s t : List ℕ} → Left d at whole out place left → left ≡ s ++ t
    → Wrote out place s o m → Left d at whole o m t
left_next {d} {out} {o} {at} {place} {m} {whole} {left} {s} {t} l e w =
    record {
      place_is = l.place_is ∙ rw (e, w.place_is, w.out_is) (sym (two_end out place s t));
      out_is = l.out_is ∙ rw (e, w.place_is, w.out_is) (sym (two_out out place s t));
    }

pub left_last : {d out o : List ℕ} {at place m : ℕ} {whole left s : List ℕ} → Left d at whole out place left → left ≡ s
    → Wrote out place s o m → Wrote d at whole o m
left_last l e w =
    record {
      place_is = w.place_is ∙ rw (sym e) (sym l.place_is);
      out_is = w.out_is ∙ rw (sym e) (sym l.out_is);
    }

pub left_none : {d out : List ℕ} {at place : ℕ} {whole left : List ℕ} → Left d at whole out place left → left ≡ [] → Wrote d at whole out place
left_none {d} {out} {at} {place} l e = left_last l e (wrote_none out place)
