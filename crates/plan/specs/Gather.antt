-- The loops of `plan`: each, turn by turn, comes to what `Steps` says.
use mathlib.Core.List.{List, [], ◌∷◌, ◌++◌, append-nil, append_assoc}
use Rattle.std.specs.Prelude.{◌≡◌, refl, ltb, eqb, set, get_or, take, drop, replicate}
use Rattle.std.proofs.Common.{sym, ◌∙◌, length-take, drop_of_length-le, get_or-take}
use Prim.Native.Nat.{ℕ, zero, suc, ◌+◌, ◌-◌, ◌<◌, ◌≤◌}
use Rattle.std.proofs.Math.Numerals.{add-one}
use native.Mathlib.Omega.{arith}
use Rattle.std.proofs.Math.ListN.{length, length-append}
use Rattle.std.proofs.lemmas.List.{length-replicate}
use Rattle.std.proofs.Math.Seq.{take-nil, set-append_seam, take-append_seam, drop-append-add, drop-cons}
use Rattle.std.proofs.lemmas.List.Edits.{sets, sets-eq}
use borrow.Author.Tests.{ltb-true, ltb-false, eqb-true, eqb-false, eq-eqb, ne_eqb}
use Rattle.base.specs.Choice.{pick, cases}
use Rattle.base.specs.Write.{over, over_lent}
use Rattle.plan.specs.Groups.{width_of, members}
use Rattle.plan.specs.Steps.{padded, line_size, line_of, key_in, nearer_of, least_from, passed, chunk_of, gather_of}
use Rattle.plan.specs.declared.Plan.{Plan}
use Rattle.plan.specs.declared.Gathered.{Gathered}

-- ---- arrays that begin with a list

drop_zeros : (k n : ℕ) → drop k (replicate {A = ℕ} n 0) ≡ replicate (n - k) 0
drop_zeros zero n = let e : n - 0 ≡ n = omega arith in rw e
drop_zeros (suc k) zero = let e : 0 - suc k ≡ 0 = omega arith in rw e
drop_zeros (suc k) (suc n) = let e : suc n - suc k ≡ n - k = omega arith in rw e (drop_zeros k n)

pub length_padded : (n : ℕ) (xs : List ℕ) → length xs ≤ n → length (padded n xs) ≡ n
unfolding padded
length_padded n xs h = rw (length-append, length-replicate) (omega arith)

pub set_padded : (n : ℕ) (xs : List ℕ) (x : ℕ) → length xs < n → set (padded n xs) (length xs) x ≡ padded n (xs ++ (x ∷ []))
unfolding padded
set_padded n xs x h =
    let e : n - length xs ≡ suc (n - (length xs + 1)) = omega arith in
    rw (e, set-append_seam, length-append, append_assoc)

pub sets_padded : (n : ℕ) (xs ys : List ℕ) → length xs + length ys ≤ n → sets (padded n xs) (length xs) ys ≡ padded n (xs ++ ys)
unfolding padded
sets_padded n xs ys h =
    let e : (n - length xs) - length ys ≡ n - (length xs + length ys) = omega arith in
    rw (
      sets-eq ys (xs ++ replicate (n - length xs) 0) (length xs) (rw (length-append, length-replicate) (omega arith)),
      take-append_seam,
      drop-append-add,
      drop_zeros,
      e,
      length-append,
      append_assoc,
    )

pub line_made : (xs ys : List ℕ) → length xs + length ys ≤ 512 → sets (sets (replicate 512 0) 0 xs) (length xs) ys ≡ padded 512 (xs ++ ys)
unfolding padded
line_made xs ys h = rw (← first) (sets_padded 512 xs ys h)
  where
    none : padded 512 [] ≡ replicate 512 0
    none = refl

    first : padded 512 xs ≡ sets (replicate 512 0) 0 xs
    first = sym (sets_padded 512 [] xs (let e : length {A = ℕ} [] + length xs ≡ length xs = omega arith in omega arith))

-- ---- the places of a plan

pub line_size_le : (n : ℕ) → line_size n ≤ 512
unfolding line_size
line_size_le n = cases _ (ltb n 512) (λ e. rw e (omega (arith, ltb-true n 512 e))) (λ e. rw e (omega arith))

pub length_line : (p : Plan) → length p.pids ≡ 512 → length (line_of p) ≡ line_size p.len
unfolding line_of
length_line p h = rw length-take (omega (arith, line_size_le p.len))

pub width_pos : (m g : ℕ) → 0 < width_of m g
unfolding width_of
width_pos m g = cases _ (eqb g 256) (λ e. rw e (omega arith)) (λ e. rw e (cases _ (ltb m 2) (λ f. rw f (omega arith)) (λ f. let a = ltb-false m 2 f in rw f
    (cases _ (ltb 6 m) (λ k. rw k (omega arith)) (λ k. rw k (omega arith))))))

pub width_le : (m g : ℕ) → width_of m g ≤ 6
unfolding width_of
width_le m g = cases _ (eqb g 256) (λ e. rw e (omega arith)) (λ e. rw e (cases _ (ltb m 2) (λ f. rw f (omega arith)) (λ f. rw f
    (cases _ (ltb 6 m) (λ k. rw k (omega arith)) (λ k. let a = ltb-false 6 m k in rw k (omega arith))))))

-- ---- the gathering of a chunk

-- What is gathered from xs on, when c PIDs are in the array already and the place is i.
unfoldable pub gather_from : (ℕ → ℕ) → ℕ → ℕ → List ℕ → List ℕ → ℕ → ℕ → Gathered
gather_from key g w [] pids c i = record { chunk = record { pids = pids; count = c }; at = i }
gather_from key g w (x ∷ xs) pids c i =
    pick (eqb (key x) g)
    (pick (eqb (c + 1) w)
    (record { chunk = record { pids = set pids c x; count = c + 1 }; at = i + 1 })
    (gather_from key g w xs (set pids c x) (c + 1) (i + 1)))
    (gather_from key g w xs pids c (i + 1))

passed_none : (key : ℕ → ℕ) (g : ℕ) (xs : List ℕ) → passed key g 0 xs ≡ 0
unfolding passed
passed_none key g [] = refl
passed_none key g (x ∷ xs) = refl

module _ (key : ℕ → ℕ) (g w : ℕ) (w_le : w ≤ 6) where
  gather_is : (xs ys : List ℕ) (i : ℕ) → length ys < w
      → gather_from key g w xs (padded 6 ys) (length ys) i
      ≡ record { chunk = chunk_of (ys ++ take (w - length ys) (members key g xs)); at = i + passed key g (w - length ys) xs }
  unfolding gather_from members passed
  gather_is [] ys i h =
      let e : i + 0 ≡ i = omega arith in
      rw (take-nil, append-nil, e)
  gather_is (x ∷ xs) ys i h =
      let z = ne_eqb (w - length ys) 0 (λ e. omega arith) in
      let n : length (ys ++ (x ∷ [])) ≡ length ys + 1 = length-append ys (x ∷ []) in
      let s = set_padded 6 ys x (omega arith) in
      cases _ (eqb (key x) g)
      (λ e. cases _ (eqb (length ys + 1) w)
      (λ f. let v : w - length ys ≡ 1 = (let a = eqb-true (length ys + 1) w f in omega arith) in
      rw (e, f, v, s, passed_none key g xs, n))
      (λ f. let b : (length ys + 1 ≡ w → ⊥) = eqb-false (length ys + 1) w f in
      let v : w - length ys ≡ suc (w - (length ys + 1)) = omega arith in
      let u : suc (w - (length ys + 1)) - 1 ≡ w - (length ys + 1) = omega arith in
      let k : (i + 1) + passed key g (w - (length ys + 1)) xs ≡ i + suc (passed key g (w - (length ys + 1)) xs) = omega arith in
      let r = rw (n, append_assoc) at (gather_is xs (ys ++ (x ∷ [])) (i + 1) (omega arith)) in
      rw (e, f, s) (r ∙ rw (z, v, u, k))))
      (λ e. let u : (w - length ys) - 0 ≡ w - length ys = omega arith in
      let k : (i + 1) + passed key g (w - length ys) xs ≡ i + suc (passed key g (w - length ys) xs) = omega arith in
      rw (e, z, u) (gather_is xs ys (i + 1) h ∙ rw k))

pub gather_from_law : (p : Plan) (g from : ℕ) → gather_from (key_in p) g (width_of p.maxpids g) (drop from (line_of p)) (replicate 6 0) 0 from ≡ gather_of p g from
unfolding gather_of padded
gather_from_law p g from =
    let w = width_of p.maxpids g in
    let e : w - 0 ≡ w = omega arith in
    rw e at (gather_is (key_in p) g w (width_le p.maxpids g) (drop from (line_of p)) [] from (width_pos p.maxpids g))

pub line_at : (p : Plan) (i : ℕ) → i < line_size p.len → get_or (line_of p) i 0 ≡ get_or p.pids i 0
unfolding line_of
line_at p i h = get_or-take (line_size p.len) p.pids i 0 h

-- ---- one turn of each loop, and its end, at the place i of a list

module _ (key : ℕ → ℕ) (g w : ℕ) (xs pids : List ℕ) (c i : ℕ) where
  pub gather_skip : i < length xs → (key (get_or xs i 0) ≡ g → ⊥) → gather_from key g w (drop i xs) pids c i ≡ gather_from key g w (drop (i + 1) xs) pids c (i + 1)
  unfolding gather_from
  gather_skip h e = rw (drop-cons xs i 0 h, ne_eqb _ _ e, add-one i)

  pub gather_full : i < length xs → key (get_or xs i 0) ≡ g → c + 1 ≡ w
      → gather_from key g w (drop i xs) pids c i ≡ record { chunk = record { pids = set pids c (get_or xs i 0); count = c + 1 }; at = i + 1 }
  unfolding gather_from
  gather_full h e f = rw (drop-cons xs i 0 h, eq-eqb _ _ e, eq-eqb _ _ f)

  pub gather_more : i < length xs → key (get_or xs i 0) ≡ g → (c + 1 ≡ w → ⊥)
      → gather_from key g w (drop i xs) pids c i ≡ gather_from key g w (drop (i + 1) xs) (set pids c (get_or xs i 0)) (c + 1) (i + 1)
  unfolding gather_from
  gather_more h e f = rw (drop-cons xs i 0 h, eq-eqb _ _ e, ne_eqb _ _ f, add-one i)

  pub gather_end : length xs ≤ i → gather_from key g w (drop i xs) pids c i ≡ record { chunk = record { pids = pids; count = c }; at = i }
  unfolding gather_from
  gather_end h = rw (drop_of_length-le xs h)

module _ (key : ℕ → ℕ) (above best : ℕ) (xs : List ℕ) (i : ℕ) where
  pub least_turn : i < length xs → least_from key above best (drop i xs) ≡ least_from key above (nearer_of above (key (get_or xs i 0)) best) (drop (i + 1) xs)
  unfolding least_from
  least_turn h = rw (add-one i, drop-cons xs i 0 h)

  pub least_end : length xs ≤ i → least_from key above best (drop i xs) ≡ best
  unfolding least_from
  least_end h = rw (drop_of_length-le xs h)

-- A list written over a part of another, through a lent end of it.
pub sets_lent : (into xs part : List ℕ) (base n : ℕ) → length into ≡ n → base + length xs ≤ n → part ≡ over (take (n - base) (drop base into)) 0 xs
    → take base into ++ (part ++ drop (n - base) (drop base into)) ≡ sets into base xs
unfolding over
sets_lent into xs part base n l h e =
    rw (sets-eq xs into base (omega arith), append_assoc) (rw (← l) (over_lent into base xs part (omega arith) (rw l e)))
