-- Laws of the definitions of `Decimal`.
use Rattle.std.specs.Prelude.{true, false, List, [], ◌∷◌, ◌≡◌, ℕ, zero, suc, ◌+◌, ◌-◌, ◌*◌, ◌/◌, ◌%◌, ◌<◌, ◌≤◌, eqb, leb, ltb, length, get_or, drop, set, Option, Some, None}
use Rattle.std.proofs.Common.{sym, ◌∙◌, arith, drop_of_length-le, length-set, drop-cons, get_or-set_same, drop-set-lt}
use Rattle.std.proofs.Math.Numerals.{add-one}
use borrow.Author.Tests.{leb-true, le-leb, lt-leb, ne_eqb, lt-ltb, le-ltb, ltb-true, ltb-false}
use Rattle.ascii.specs.Chars.{between}
use Rattle.base.specs.Choice.{cases}
use Rattle.numeral.specs.Decimal.{number_from, number_of, digits_onto, decimal_text}

-- A value above max only grows.
pub past_max : (max v : ℕ) (s : List ℕ) → max < v → number_from max v s ≡ None
unfolding number_from
past_max max v [] h = rw (lt-leb v max h)
past_max max v (b ∷ bs) h =
    cases _ (between 48 b 57)
    (λ e. rw e (past_max max (v * 10 + (b - 48)) bs (omega arith)))
    (λ e. rw e)

pub number_none : (max : ℕ) (s : List ℕ) → length s ≡ 0 → number_of max s ≡ None
unfolding number_of
number_none max s h = rw h

pub number_some : (max : ℕ) (s : List ℕ) → (length s ≡ 0 → ⊥) → number_of max s ≡ number_from max 0 s
unfolding number_of
number_some max s h = rw (ne_eqb (length s) 0 h)

-- A number from the front: what is left of it at place i.
module _ (max v : ℕ) (s : List ℕ) (i : ℕ) where
  pub number_other : i < length s → between 48 (get_or s i 0) 57 ≡ false → number_from max v (drop i s) ≡ None
  unfolding number_from
  number_other h e = rw (drop-cons s i 0 h, e)

  pub number_next : i < length s → between 48 (get_or s i 0) 57 ≡ true
      → number_from max v (drop i s) ≡ number_from max (v * 10 + (get_or s i 0 - 48)) (drop (i + 1) s)
  unfolding number_from
  number_next h e = rw (drop-cons s i 0 h, e, add-one i)

  pub number_past : i < length s → max < v * 10 + (get_or s i 0 - 48) → between 48 (get_or s i 0) 57 ≡ true → number_from max v (drop i s) ≡ None
  number_past h k e = number_next h e ∙ past_max max _ (drop (i + 1) s) k

  pub number_end : length s ≤ i → v ≤ max → number_from max v (drop i s) ≡ Some v
  unfolding number_from
  number_end h k = rw (drop_of_length-le s h, le-leb v max k)

-- Digits written from the back: what is left of the text when the digit at place j is written.
module _ (left j : ℕ) (d : List ℕ) (h : j < length d) where
  written : drop j (set d j (48 + left % 10)) ≡ (48 + left % 10) ∷ drop (suc j) d
  written =
      let n = length-set d j (48 + left % 10) in
      rw (drop-cons (set d j (48 + left % 10)) j 0 (omega arith), get_or-set_same d j (48 + left % 10) 0 h, drop-set-lt (suc j) d j (48 + left % 10) (omega arith))

  pub digits_last : left / 10 ≡ 0 → digits_onto (j + 1) left (drop (j + 1) d) ≡ drop j (set d j (48 + left % 10))
  unfolding digits_onto
  digits_last e = rw (written, add-one j, lt-ltb left 10 (omega arith))

  pub digits_next : (left / 10 ≡ 0 → ⊥)
      → digits_onto (j + 1) left (drop (j + 1) d) ≡ digits_onto j (left / 10) (drop j (set d j (48 + left % 10)))
  unfolding digits_onto
  digits_next e = rw (written, add-one j, le-ltb left 10 (ten_le left e))
    where
      ten_le : (n : ℕ) → (n / 10 ≡ 0 → ⊥) → 10 ≤ n
      ten_le n f = cases _ (ltb n 10) (λ t. absurd (f (let l = ltb-true n 10 t in omega arith))) (λ t. ltb-false n 10 t)

-- A number is at most the largest that its field takes.
abbrev AtMost : ℕ → Option ℕ → Type 0
AtMost max (Some v) = v ≤ max
AtMost max None = Unit {0}

from_most : (max v : ℕ) (s : List ℕ) → AtMost max (number_from max v s)
unfolding number_from
from_most max v [] = cases _ (leb v max) (λ e. rw e (leb-true v max e)) (λ e. rw e tt)
from_most max v (b ∷ bs) = cases _ (between 48 b 57) (λ e. rw e (from_most max (v * 10 + (b - 48)) bs)) (λ e. rw e tt)

number_most : (max : ℕ) (s : List ℕ) → AtMost max (number_of max s)
unfolding number_of
number_most max s = cases _ (eqb (length s) 0) (λ e. rw e tt) (λ e. rw e (from_most max 0 s))

pub value_most : (max : ℕ) (s : List ℕ) (n : Option ℕ) (v : ℕ) → n ≡ number_of max s → n ≡ Some v → v ≤ max
value_most max s n v e f = rw (sym e ∙ f) at (number_most max s)

-- A number's text has at most 20 digits.
onto_short : (places n : ℕ) (t : List ℕ) → length (digits_onto places n t) ≤ places + length t
unfolding digits_onto
onto_short zero n t = omega arith
onto_short (suc places) n t =
    cases _ (ltb n 10)
    (λ e. rw e (omega arith))
    (λ e. rw e (omega (arith, onto_short places (n / 10) ((48 + n % 10) ∷ t))))

pub text_short : (n : ℕ) → length (decimal_text n) ≤ 20
unfolding decimal_text
text_short n = onto_short 20 n []
