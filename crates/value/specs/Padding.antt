-- What A1 promises of filler bytes behind the data, and what it leaves as it was.
use Rattle.std.specs.Prelude.{Option, Some, None, List, [], ◌∷◌, ◌≡◌, refl, length, take, drop}
use Rattle.std.proofs.Common.{sym, ◌∙◌, arith, zero-add, suc-add, length-drop, take-take}
use Rattle.std.proofs.Math.Path.{ap}
use Prim.Native.Nat.{ℕ, zero, suc, ◌+◌, ◌≤◌, min}
use Rattle.std.proofs.Math.Seq.{take-nil, drop-nil}
use Rattle.pid.specs.Lengths.{data_length_of}
use Rattle.reply.specs.Rules.{first_line}
use Rattle.reply.specs.declared.Reply.{Reply}
use Rattle.value.specs.Rules.{head, max_width, width_of, fold_of, data_of, value_by, value_of}
use Rattle.value.specs.Laws.{take_least}

-- The value as it was before A1: up to four bytes, whatever the PID. The Rust folds these too; that was run, not proved.
unfoldable pub value_as_it_was : Reply → ℕ
value_as_it_was r = fold_of 0 (data_of max_width r)

-- A line of n bytes has none behind the data: at most two more than the PID's length, if it has one.
abbrev pub NoSurplus : Option ℕ → ℕ → Type 0
NoSurplus (Some d) n = n ≤ d + head
NoSurplus None n = Unit {0}

by_length : (l : Option ℕ) (r : Reply) → NoSurplus l (length (first_line r)) → value_by l r ≡ value_as_it_was r
unfolding value_by value_as_it_was data_of width_of
by_length (Some d) r h =
    let short : length (drop head (first_line r)) ≤ d = rw length-drop (omega arith) in
    ap (fold_of 0) (take_least d max_width (drop head (first_line r)) short)
by_length None r h = refl

-- Where the first line has at most two bytes more than the length, the value is what it was.
pub value_as_it_was_law : (p : ℕ) (r : Reply) → NoSurplus (data_length_of p) (length (first_line r)) → value_of p r ≡ value_as_it_was r
unfolding value_of
value_as_it_was_law p r h = by_length (data_length_of p) r h

data_within : (h w : ℕ) (xs : List ℕ) → take w (drop h xs) ≡ drop h (take (h + w) xs)
data_within zero w xs = rw (zero-add w)
data_within (suc h) w [] = rw (take-nil w, take-nil (suc h + w), drop-nil (suc h))
data_within (suc h) w (x ∷ xs) = rw (suc-add h w) (data_within h w xs)

module _ (d : ℕ) where
  abbrev within : List ℕ → List ℕ
  within line = drop head (take (head + width_of (Some d)) (take (head + d) line))

  data_kept : (r : Reply) → data_of (width_of (Some d)) r ≡ within (first_line r)
  unfolding data_of width_of
  data_kept r =
      data_within head (min d max_width) (first_line r)
      ∙ ap (drop head) (sym (take-take (head + min d max_width) (head + d) (first_line r) (omega arith)))

-- FILLER BYTES: what stands in the first line behind the data does not move the value.
pub filler_unread : (p d : ℕ) (r s : Reply) → data_length_of p ≡ Some d
    → take (head + d) (first_line r) ≡ take (head + d) (first_line s) → value_of p r ≡ value_of p s
unfolding value_of value_by
filler_unread p d r s e k = rw e (ap (fold_of 0) (data_kept d r ∙ ap (λ (xs : List ℕ). drop head (take (head + width_of (Some d)) xs)) k ∙ sym (data_kept d s)))
