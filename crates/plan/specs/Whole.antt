-- A whole round: no more queries than PIDs, each PID asked once, and a chunk's size.
use Rattle.std.specs.Prelude.{Bool, true, false, ◌≡◌, ltb, eqb, length, get_or, take, drop}
use mathlib.Core.List.{List, [], ◌∷◌, ◌++◌}
use Rattle.std.proofs.Math.Path.{refl}
use Rattle.std.proofs.Common.{ap, length-take, length-drop, take-append-drop}
use Prim.Native.Nat.{ℕ, zero, suc, ◌+◌, ◌<◌, ◌≤◌}
use native.Mathlib.Omega.{arith}
use Rattle.std.proofs.Math.ListN.{length-append}
use borrow.Author.Tests.{ltb-true, ltb-false, eqb-true, eqb-false, ne_eqb}
use Rattle.base.specs.Choice.{one, cases}
use Rattle.base.specs.Times.{times, times_append}
use Rattle.plan.specs.Cases.{take_here, take_done, take_next}
use Rattle.plan.specs.Gather.{width_pos, width_le, length_padded}
use Rattle.plan.specs.Groups.{group_of, width_of, members, chunks_in, chunks, queries, round_of}
use Rattle.plan.specs.Left.{keys_of, fewer}
use Rattle.plan.specs.Steps.{least_in, chunk_of, gather_of, take_of}
use Rattle.plan.specs.declared.Plan.{Plan}
use Rattle.plan.specs.declared.Chunk.{Chunk}

-- The PIDs of some queries, in order.
unfoldable pub asked : List (List ℕ) → List ℕ
asked [] = []
asked (xs ∷ xss) = xs ++ asked xss

asked_append : (q : ℕ) (xss yss : List (List ℕ)) → times q (asked (xss ++ yss)) ≡ times q (asked xss) + times q (asked yss)
unfolding asked times
asked_append q [] yss = omega arith
asked_append q (xs ∷ xss) yss = omega (arith, times_append q xs (asked (xss ++ yss)), times_append q xs (asked xss), asked_append q xss yss)

-- ---- each once

chunks_all : (n w q : ℕ) (xs : List ℕ) → 0 < w → length xs ≤ n → times q (asked (chunks_in n w xs)) ≡ times q xs
unfolding chunks_in asked times
chunks_all zero w q [] h k = refl
chunks_all zero w q (x ∷ xs) h k = absurd (omega arith)
chunks_all (suc n) w q [] h k = refl
chunks_all (suc n) w q (x ∷ xs) h k =
    let a = times_append q (take w (x ∷ xs)) (asked (chunks_in n w (drop w (x ∷ xs)))) in
    let b = chunks_all n w q (drop w (x ∷ xs)) h (rw length-drop (omega arith)) in
    let c = times_append q (take w (x ∷ xs)) (drop w (x ∷ xs)) in
    let d = ap (times q) (take-append-drop w (x ∷ xs)) in
    omega arith

-- The sum of a weight over a list. `times q` and `length` are two such sums.
sum : (ℕ → ℕ) → List ℕ → ℕ
sum f [] = 0
sum f (x ∷ xs) = f x + sum f xs

sum_times : (q : ℕ) (xs : List ℕ) → sum (λ x. one (eqb x q)) xs ≡ times q xs
unfolding sum times
sum_times q [] = refl
sum_times q (x ∷ xs) = omega (arith, sum_times q xs)

sum_length : (xs : List ℕ) → sum (λ x. 1) xs ≡ length xs
unfolding sum
sum_length [] = refl
sum_length (x ∷ xs) = omega (arith, sum_length xs)

-- The weight of n groups from g on.
spread : (ℕ → ℕ) → (ℕ → ℕ) → List ℕ → ℕ → ℕ → ℕ
spread f key line zero g = 0
spread f key line (suc n) g = sum f (members key g line) + spread f key line n (suc g)

module _ (f key : ℕ → ℕ) where
  spread_none : (n g : ℕ) → spread f key [] n g ≡ 0
  unfolding spread sum members
  spread_none zero g = refl
  spread_none (suc n) g = omega (arith, spread_none n (suc g))

  -- a PID of a lower group adds nothing, one of a group among the n its weight, and any at most that
  spread_out : (x : ℕ) (xs : List ℕ) (n g : ℕ) → key x < g → spread f key (x ∷ xs) n g ≡ spread f key xs n g
  unfolding spread members
  spread_out x xs zero g h = refl
  spread_out x xs (suc n) g h = rw (ne_eqb (key x) g (λ e. omega arith)) (omega (arith, spread_out x xs n (suc g) (omega arith)))

  spread_in : (x : ℕ) (xs : List ℕ) (n g : ℕ) → g ≤ key x → key x < g + n → spread f key (x ∷ xs) n g ≡ f x + spread f key xs n g
  unfolding spread members sum
  spread_in x xs zero g h k = omega arith
  spread_in x xs (suc n) g h k = cases _ (eqb (key x) g)
      (λ e. let a = eqb-true (key x) g e in rw e (omega (arith, spread_out x xs n (suc g) (omega arith))))
      (λ e. let a : (key x ≡ g → ⊥) = eqb-false (key x) g e in rw e (omega (arith, spread_in x xs n (suc g) (omega arith) (omega arith))))

  spread_le : (x : ℕ) (xs : List ℕ) (n g : ℕ) → spread f key (x ∷ xs) n g ≤ f x + spread f key xs n g
  unfolding spread members sum
  spread_le x xs zero g = omega arith
  spread_le x xs (suc n) g = cases _ (eqb (key x) g)
      (λ e. let a = eqb-true (key x) g e in rw e (omega (arith, spread_out x xs n (suc g) (omega arith))))
      (λ e. rw e (omega (arith, spread_le x xs n (suc g))))

  spread_all : (xs : List ℕ) (n g : ℕ) → ((q : ℕ) → (g ≤ key q) × (key q < g + n)) → spread f key xs n g ≡ sum f xs
  unfolding sum
  spread_all [] n g h = spread_none n g
  spread_all (x ∷ xs) n g h = omega (arith, spread_in x xs n g (h x).0 (h x).1, spread_all xs n g h)

  spread_most : (xs : List ℕ) (n g : ℕ) → spread f key xs n g ≤ sum f xs
  unfolding sum
  spread_most [] n g = omega (arith, spread_none n g)
  spread_most (x ∷ xs) n g = omega (arith, spread_le x xs n g, spread_most xs n g)

module _ (key : ℕ → ℕ) (m : ℕ) (line : List ℕ) where
  queries_times : (q n g : ℕ) → times q (asked (queries key m line n g)) ≡ spread (λ x. one (eqb x q)) key line n g
  unfolding queries asked times spread chunks
  queries_times q zero g = refl
  queries_times q (suc n) g =
      let ms = members key g line in
      omega (
        arith,
        asked_append q (chunks_in (length ms) (width_of m g) ms) (queries key m line n (suc g)),
        chunks_all (length ms) (width_of m g) q ms (width_pos m g) (omega arith),
        sum_times q ms,
        queries_times q n (suc g),
      )

  queries_length : (n g : ℕ) → length (queries key m line n g) ≤ spread (λ x. 1) key line n g
  unfolding queries spread chunks
  queries_length zero g = omega arith
  queries_length (suc n) g =
      let ms = members key g line in
      omega (
        arith,
        length-append (chunks_in (length ms) (width_of m g) ms) (queries key m line n (suc g)),
        fewer (length ms) (width_of m g) ms,
        sum_length ms,
        queries_length n (suc g),
      )

  -- A round has no more queries than PIDs.
  pub round_length : length (round_of key m line) ≤ length line
  unfolding round_of
  round_length = omega (arith, queries_length 256 1, spread_most (λ x. 1) key line 256 1, sum_length line)

  -- Each PID is asked as often as it stands in the lists: once, where none stands twice.
  pub round_asks : ((q : ℕ) → (1 ≤ key q) × (key q ≤ 256)) → (q : ℕ) → times q (asked (round_of key m line)) ≡ times q line
  unfolding round_of
  round_asks h q =
      omega (arith, queries_times q 256 1, spread_all (λ x. one (eqb x q)) key line 256 1 (λ r. ((h r).0, let a = (h r).1 in omega arith)), sum_times q line)

-- Where ECU counts are bytes, every PID has its group.
pub keys_range : (counts : List ℕ) (known : List Bool) → ((q : ℕ) → get_or counts q 0 < 256) → (q : ℕ) → (1 ≤ keys_of counts known q) × (keys_of counts known q ≤ 256)
unfolding group_of
keys_range counts known h q = range (get_or counts q 0) (get_or known q false) (h q)
  where
    range : (c : ℕ) (k : Bool) → c < 256 → (1 ≤ group_of c k) × (group_of c k ≤ 256)
    range c true b = cases _ (eqb c 0)
        (λ e. rw e (omega arith, omega arith))
        (λ e. let z : (c ≡ 0 → ⊥) = eqb-false c 0 e in rw e (omega arith, omega arith))
    range c false b = (omega arith, omega arith)

-- ---- a chunk

pub record Short (c : Chunk) : Type 0 where
  pub whole : length c.pids ≡ 6
  pub within : c.count ≤ 6

chunk_short : (xs : List ℕ) → length xs ≤ 6 → Short (chunk_of xs)
chunk_short xs h = record { whole = length_padded 6 xs h; within = h }

gather_short : (p : Plan) (g from : ℕ) → Short (gather_of p g from).chunk
unfolding gather_of
gather_short p g from = chunk_short _ (rw length-take (omega (arith, width_le p.maxpids g)))

pub take_short : (p : Plan) → Short (take_of p).chunk
take_short p =
    let n = (gather_of p p.group p.at).chunk.count in
    let l = least_in p p.group in
    cases _ (eqb n 0)
    (λ e. let z = eqb-true n 0 e in cases _ (ltb 256 l)
    (λ f. rw (take_done p z (ltb-true 256 l f)) (chunk_short [] (omega arith)))
    (λ f. rw (take_next p z (ltb-false 256 l f)) (gather_short p l 0)))
    (λ e. rw (take_here p (eqb-false n 0 e)) (gather_short p p.group p.at))
