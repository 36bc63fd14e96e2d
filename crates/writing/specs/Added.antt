-- A text with others written behind it, one by one, as far as there is room for n bytes.
use Rattle.std.specs.Prelude.{List, [], ◌∷◌, ◌++◌, ◌≡◌, ℕ, ◌+◌, ◌-◌, ◌<◌, ◌≤◌, min, take, drop, set, get_or, leb, length, refl}
use Rattle.std.proofs.Common.{◌∙◌, sym, ap, arith, append_assoc, append-nil, length-append, length-take-le, add-one, drop-cons, le-leb}
use Rattle.std.proofs.lemmas.Bool.{lt-leb}
use Rattle.std.proofs.Math.ListN.{length-take}
use Rattle.std.proofs.lemmas.List.{take_more_set}
use Rattle.std.proofs.Math.Seq.{take_all, take-append-le, take-append-add, take-nil}
use borrow.Author.Tests.{leb-true, leb-false}
use Rattle.base.specs.Choice.{cases, pick}
use Rattle.base.specs.Write.{over, take_over}
use Rattle.text.specs.Put.{put_of, put_end}

-- The text old with s behind it, as far as there is room for n bytes in all.
unfoldable pub added : ℕ → List ℕ → List ℕ → List ℕ
added n old s = old ++ take (n - length old) s

module _ (n : ℕ) (old : List ℕ) where
  pub added_none : added n old [] ≡ old
  unfolding added
  added_none = rw (take-nil (n - length old)) (append-nil old)

  pub added_full : (s : List ℕ) → n ≤ length old → added n old s ≡ old
  unfolding added
  added_full s h = let z : n - length old ≡ 0 = omega arith in rw z (append-nil old)

  -- Where there is room for the whole text, the whole text is written.
  pub added_fits : (s : List ℕ) → length old + length s ≤ n → added n old s ≡ old ++ s
  unfolding added
  added_fits s h = rw (take_all (n - length old) s (omega arith))

  pub added_length : (s : List ℕ) → length old ≤ n → length (added n old s) ≤ n
  unfolding added
  added_length s h = rw (length-append, length-take) (omega arith)

-- Two texts one behind the other are one text.
take_two : (k : ℕ) (s t : List ℕ) → take k (s ++ t) ≡ take k s ++ take (k - length s) t
take_two k s t =
    cases _ (leb (length s) k)
    (λ e. let h = leb-true (length s) k e in
    let z : k ≡ length s + (k - length s) = omega arith in
    ap (λ (m : ℕ). take m (s ++ t)) z ∙ take-append-add s t (k - length s) ∙ ap (λ (x : List ℕ). x ++ take (k - length s) t) (sym (take_all k s h)))
    (λ e. let h = leb-false (length s) k e in
    let z : k - length s ≡ 0 = omega arith in
    take-append-le k s t (omega arith) ∙ rw z (sym (append-nil (take k s))))

two_are_one : (n : ℕ) (old s t : List ℕ) → added n (added n old s) t ≡ added n old (s ++ t)
unfolding added
two_are_one n old s t =
    let k = n - length old in
    let z : n - length (old ++ take k s) ≡ k - length s = rw (length-append, length-take) (omega arith) in
    rw (z, take_two k s t) (append_assoc old (take k s) _)

-- The bytes that are written are the first so many of an array of n.
module _ (n : ℕ) (bytes : List ℕ) (len : ℕ) (full : length bytes ≡ n) where
  pub added_one : (b : ℕ) → len < n → take (len + 1) (set bytes len b) ≡ added n (take len bytes) (b ∷ [])
  added_one b h =
      let l : length (take len bytes) ≡ len = length-take-le len bytes (omega arith) in
      take_more_set bytes len b (omega arith) ∙ sym (added_fits n (take len bytes) (b ∷ []) (omega arith))

  pub added_past : (s : List ℕ) → len ≤ n → n ≤ len → added n (take len bytes) s ≡ take len bytes
  added_past s g h =
      let l : length (take len bytes) ≡ len = length-take-le len bytes (omega arith) in
      added_full n (take len bytes) s (omega arith)

  -- As much of a text as there is room for, written at once.
  pub added_part : (s : List ℕ) (m : ℕ) → len ≤ n → m ≡ min (length s) (n - len)
      → take (len + m) (over bytes len (take m s)) ≡ added n (take len bytes) s
  unfolding added
  added_part s m g e =
      let l : length (take len bytes) ≡ len = length-take-le len bytes (omega arith) in
      let k : length (take m s) ≡ m = length-take-le m s (omega arith) in
      let t : take m s ≡ take (n - len) s =
      cases _ (leb (length s) (n - len))
      (λ h. let x = leb-true (length s) (n - len) h in
      take_all m s (omega arith) ∙ sym (take_all (n - len) s x))
      (λ h. let x = leb-false (length s) (n - len) h in ap (λ (j : ℕ). take j s) (let z : m ≡ n - len = omega arith in z)) in
      ap (λ (j : ℕ). take (len + j) (over bytes len (take m s))) (sym k) ∙ take_over bytes len (take m s) (omega arith) ∙ rw (l, t)

-- The text s was written behind old, as far as there is room for n bytes in all: the text is new then.
pub record Added (n : ℕ) (old s new : List ℕ) : Type 0 where
  pub text_is : new ≡ added n old s

pub added_all : (n : ℕ) (old : List ℕ) → Added n old [] old
added_all n old = record { text_is = sym (added_none n old) }

pub added_then : {n : ℕ} {d o p s t : List ℕ} → Added n d s o → Added n o t p → Added n d (s ++ t) p
added_then {n} {d} {o} {p} {s} {t} e f = record { text_is = f.text_is ∙ rw e.text_is (two_are_one n d s t) }

-- A text that is written part by part: what is left to write is written from here.
pub record Left (n : ℕ) (d whole out left : List ℕ) : Type 0 where
  pub text_is : added n d whole ≡ added n out left

pub left_all : (n : ℕ) (d s : List ℕ) → Left n d s d s
left_all n d s = record { text_is = refl }

pub left_next : {n : ℕ} {d whole out o left s t : List ℕ} → Left n d whole out left → left ≡ s ++ t → Added n out s o → Left n d whole o t
left_next {n} {d} {whole} {out} {o} {left} {s} {t} l e w =
    record { text_is = l.text_is ∙ rw (e, w.text_is) (sym (two_are_one n out s t)) }

pub left_last : {n : ℕ} {d whole out o left s : List ℕ} → Left n d whole out left → left ≡ s → Added n out s o → Added n d whole o
left_last l e w = record { text_is = w.text_is ∙ rw (sym e) (sym l.text_is) }

pub left_none : {n : ℕ} {d whole out left : List ℕ} → Left n d whole out left → left ≡ [] → Added n d whole out
left_none {n} {d} {whole} {out} l e = left_last l e (added_all n out)

-- One byte of a text more.
pub next_byte : (s : List ℕ) (i : ℕ) → i < length s → drop i s ≡ (get_or s i 0 ∷ []) ++ drop (i + 1) s
next_byte s i h = rw (drop-cons s i 0 h, add-one i)

-- The text old with the whole of s behind it, or old itself where there is no room for the whole.
unfoldable pub whole : ℕ → List ℕ → List ℕ → List ℕ
whole n old s = pick (leb (length old + length s) n) (old ++ s) old

module _ (n : ℕ) (old s : List ℕ) where
  pub whole_fits : length old + length s ≤ n → whole n old s ≡ old ++ s
  unfolding whole
  whole_fits h = rw (le-leb _ _ h)

  pub whole_full : n < length old + length s → whole n old s ≡ old
  unfolding whole
  whole_full h = rw (lt-leb _ _ h)

-- A text that is written whole where there is room for it is written as far as there is room.
pub added_whole : {n : ℕ} {old s new : List ℕ} → length old + length s ≤ n → new ≡ whole n old s → Added n old s new
added_whole {n} {old} {s} {new} h e = record { text_is = e ∙ whole_fits n old s h ∙ sym (added_fits n old s h) }

-- Put into an array of n behind its first so many bytes, the text is whole there, or not there at all.
pub whole_put : (n : ℕ) (bytes : List ℕ) (len : ℕ) → length bytes ≡ n → len ≤ n → (s : List ℕ)
    → take (put_end bytes len s) (put_of bytes len s) ≡ whole n (take len bytes) s
unfolding put_of put_end whole
whole_put n bytes len full g s =
    let l : length (take len bytes) ≡ len = length-take-le len bytes (omega arith) in
    cases _ (leb (len + length s) n)
    (λ e. let h = leb-true (len + length s) n e in rw (full, l, e) (take_over bytes len s (omega arith)))
    (λ e. rw (full, l, e))

pub put_within : (n : ℕ) (bytes : List ℕ) (len : ℕ) → length bytes ≡ n → len ≤ n → (s : List ℕ) → put_end bytes len s ≤ n
unfolding put_end
put_within n bytes len full g s =
    cases _ (leb (len + length s) n)
    (λ e. let h = leb-true (len + length s) n e in rw (full, e) h)
    (λ e. rw (full, e) g)
