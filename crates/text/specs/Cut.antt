-- Texts cut at a byte: history-format.md, "Tokens are parted by one space". A comma and a colon part a token
-- in the same way. Two parting bytes in a row have an empty text between them.
use Rattle.std.specs.Prelude.{Bool, true, false, cond, ◌&&◌, List, [], ◌∷◌, ◌++◌, ◌≡◌, refl, ℕ, suc, ◌+◌, ◌<◌, ◌≤◌, eqb, ltb, nat_eq, length, get_or, take, drop, Option, Some, None, unwrap_or}
use Rattle.std.specs.List.{position_or_len}
use Rattle.std.specs.Cmp.Lexicographic.{pointwise}
use Rattle.std.proofs.Common.{ap, sym, arith, add-one, take_all, eqb-true, ltb-false}
use Rattle.std.proofs.lemmas.List.Recursion.{is_position_or_len}
use Rattle.std.proofs.Math.ListN.{drop_of_length-le}
use Rattle.std.proofs.Math.Seq.{drop-cons}
use Rattle.base.specs.Choice.{pick, cases}
use Rattle.base.specs.Search.{Search, search_le}
use Rattle.base.specs.Times.{times}

-- The place of the first b, or the length where there is none.
unfoldable pub place_of : ℕ → List ℕ → ℕ
place_of b [] = 0
place_of b (x ∷ xs) = pick (eqb x b) 0 (suc (place_of b xs))

-- What stands before the first b, and what stands behind it.
unfoldable pub head_of : ℕ → List ℕ → List ℕ
head_of b s = take (place_of b s) s

unfoldable pub tail_of : ℕ → List ℕ → List ℕ
tail_of b s = drop (place_of b s + 1) s

-- The same text, byte for byte.
unfoldable pub same_of : List ℕ → List ℕ → Bool
same_of [] [] = true
same_of [] (y ∷ ys) = false
same_of (x ∷ xs) [] = false
same_of (x ∷ xs) (y ∷ ys) = eqb x y && same_of xs ys

pub byte_search : (b : ℕ) → Search (λ x. eqb x b) (place_of b)
unfolding place_of
byte_search b = record { none = refl; turn = λ x xs. refl }

pub place_le : (b : ℕ) (s : List ℕ) → place_of b s ≤ length s
place_le b s = search_le (byte_search b) s

-- The place by the words of the library's search.
module _ (b : ℕ) where
  place_is : (s : List ℕ) → place_of b s ≡ position_or_len (λ x. eqb x b) s
  unfolding place_of
  place_is s = is_position_or_len (place_of b) (λ x. eqb x b) refl (λ x xs. cases _ (eqb x b) (λ e. rw e (omega arith)) (λ e. rw e (omega arith))) s

  pub place_found : (s : List ℕ) (r : Option ℕ) → r ≡ cond (ltb (position_or_len (λ x. eqb x b) s) (length s)) (Some (position_or_len (λ x. eqb x b) s)) None
      → unwrap_or r (length s) ≡ place_of b s
  place_found s r h =
      let p = place_is s in
      cases _ (ltb (position_or_len (λ x. eqb x b) s) (length s))
      (λ e. rw (h, e) (sym p))
      (λ e. let l = ltb-false (position_or_len (λ x. eqb x b) s) (length s) e in
      let m = place_le b s in
      rw (h, e) (omega arith))

-- A count from the front: what is left of it at place i.
abbrev pub Counted : ℕ → List ℕ → ℕ → ℕ → Type 0
Counted b s i n = times b s ≡ n + times b (drop i s)

module _ (b : ℕ) (s : List ℕ) (i : ℕ) where
  pub counted_here : (n : ℕ) → i < length s → eqb (get_or s i 0) b ≡ true → Counted b s i n → Counted b s (i + 1) (n + 1)
  unfolding times
  counted_here n h e f = let a = rw (drop-cons s i 0 h, e) at f in rw (add-one i) (omega arith)

  pub counted_other : (n : ℕ) → i < length s → eqb (get_or s i 0) b ≡ false → Counted b s i n → Counted b s (i + 1) n
  unfolding times
  counted_other n h e f = let a = rw (drop-cons s i 0 h, e) at f in rw (add-one i) (omega arith)

  pub counted_end : (n : ℕ) → length s ≤ i → Counted b s i n → n ≡ times b s
  unfolding times
  counted_end n h f = let a = rw (drop_of_length-le s h) at f in omega arith

-- The same text by the library's comparison.
pub same_is : (xs ys : List ℕ) → pointwise nat_eq xs ys ≡ same_of xs ys
unfolding same_of
same_is [] [] = refl
same_is [] (y ∷ ys) = refl
same_is (x ∷ xs) [] = refl
same_is (x ∷ xs) (y ∷ ys) = rw (same_is xs ys)

-- The head has no b in it, and a text is its head, the b and its tail; all of it where there is no b.
pub head_none : (b : ℕ) (s : List ℕ) → times b (head_of b s) ≡ 0
unfolding head_of place_of times
head_none b [] = refl
head_none b (x ∷ xs) =
    cases _ (eqb x b)
    (λ e. rw e)
    (λ e. let h = head_none b xs in rw (e, e) (omega arith))

pub cut_whole : (b : ℕ) (s : List ℕ) → place_of b s < length s → s ≡ head_of b s ++ (b ∷ tail_of b s)
unfolding head_of tail_of place_of
cut_whole b [] h = absurd (omega arith)
cut_whole b (x ∷ xs) h =
    cases _ (eqb x b)
    (λ e. rw (e, eqb-true x b e))
    (λ e. let k = rw e at h in
    let z : suc (place_of b xs) + 1 ≡ suc (place_of b xs + 1) = omega arith in
    rw (e, z) (ap (λ (t : List ℕ). x ∷ t) (cut_whole b xs (omega arith))))

pub cut_none : (b : ℕ) (s : List ℕ) → length s ≤ place_of b s → head_of b s ≡ s
unfolding head_of
cut_none b s h = take_all (place_of b s) s h
