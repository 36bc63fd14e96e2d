-- The plan asks what document 01 says: `take_of` takes the first of the queries that are left, and at the begin these
-- are the queries of the round.
use Rattle.std.specs.Prelude.{Bool, true, false, ◌≡◌, ltb, eqb, get_or, take, drop}
use mathlib.Core.List.{List, [], ◌∷◌, ◌++◌}
use Rattle.std.proofs.Math.Path.{refl, ap, sym}
use Rattle.std.proofs.Common.{◌∙◌, length-append, length-take, length-drop, drop-drop}
use Prim.Native.Nat.{ℕ, zero, suc, ◌+◌, ◌-◌, ◌<◌, ◌≤◌}
use native.Mathlib.Omega.{arith}
use Rattle.std.proofs.Math.ListN.{length}
use Rattle.std.proofs.Math.Seq.{drop-nil, take-append_seam}
use borrow.Author.Tests.{ltb-true, ltb-false, eqb-true, eqb-false, lt-ltb, eq-eqb, ne_eqb}
use Rattle.base.specs.Choice.{pick, cases}
use Rattle.pid_list.specs.Rules.{size_of, entries}
use Rattle.pid_list.specs.Laws.{size_le, size_entries}
use Rattle.pid_list.specs.declared.PidList.{PidList}
use Rattle.plan.specs.Cases.{take_here, take_done, take_next}
use Rattle.plan.specs.Gather.{width_pos}
use Rattle.plan.specs.Groups.{group_of, width_of, members, chunks_in, chunks, queries, round_of}
use Rattle.plan.specs.Steps.{padded, line_size, line_of, key_in, plan_of, left_of, nearer_of, least_from, least_in, passed, chunk_of, gather_of, gathered, moved_to, take_of}
use Rattle.plan.specs.declared.Plan.{Plan}

-- ---- chunks

enough : (n m w : ℕ) (xs : List ℕ) → 0 < w → length xs ≤ n → length xs ≤ m → chunks_in n w xs ≡ chunks_in m w xs
unfolding chunks_in
enough zero zero w xs h a b = refl
enough zero (suc m) w [] h a b = refl
enough zero (suc m) w (x ∷ xs) h a b = absurd (omega arith)
enough (suc n) zero w [] h a b = refl
enough (suc n) zero w (x ∷ xs) h a b = absurd (omega arith)
enough (suc n) (suc m) w [] h a b = refl
enough (suc n) (suc m) w (x ∷ xs) h a b =
    ap (λ (r : List (List ℕ)). take w (x ∷ xs) ∷ r)
    (enough n m w (drop w (x ∷ xs)) h (rw length-drop (omega arith)) (rw length-drop (omega arith)))

chunks_none : (w : ℕ) → chunks w [] ≡ []
unfolding chunks chunks_in
chunks_none w = refl

chunks_some : (w : ℕ) (xs : List ℕ) → 0 < w → 0 < length xs → chunks w xs ≡ take w xs ∷ chunks w (drop w xs)
unfolding chunks chunks_in
chunks_some w [] h k = absurd (omega arith)
chunks_some w (x ∷ xs) h k =
    ap (λ (r : List (List ℕ)). take w (x ∷ xs) ∷ r)
    (enough (length xs) (length (drop w (x ∷ xs))) w (drop w (x ∷ xs)) h (rw length-drop (omega arith)) (omega arith))

pub fewer : (n w : ℕ) (xs : List ℕ) → length (chunks_in n w xs) ≤ n
unfolding chunks_in
fewer zero w xs = omega arith
fewer (suc n) w [] = omega arith
fewer (suc n) w (x ∷ xs) = omega (arith, fewer n w (drop w (x ∷ xs)))

-- ---- members of a group

module _ (key : ℕ → ℕ) (g : ℕ) where
  members_passed : (w : ℕ) (xs : List ℕ) → members key g (drop (passed key g w xs) xs) ≡ drop w (members key g xs)
  unfolding members passed
  members_passed w [] = sym (drop-nil w)
  members_passed zero (x ∷ xs) = refl
  members_passed (suc v) (x ∷ xs) = cases _ (eqb (key x) g)
      (λ e. let u : suc v - 1 ≡ v = omega arith in rw (ne_eqb (suc v) 0 (λ z. omega arith), e, u) (members_passed v xs))
      (λ e. let u : suc v - 0 ≡ suc v = omega arith in rw (ne_eqb (suc v) 0 (λ z. omega arith), e, u) (members_passed (suc v) xs))

none_of : (xs : List ℕ) → length xs ≡ 0 → xs ≡ []
none_of [] e = refl
none_of (x ∷ xs) e = absurd (omega arith)

-- ---- the least group above another

nearer_le : (above g b : ℕ) → nearer_of above g b ≤ b
unfolding nearer_of
nearer_le above g b = cases _ (ltb above g)
    (λ e. rw e (cases _ (ltb g b) (λ f. let a = ltb-true g b f in rw f (omega arith)) (λ f. rw f (omega arith))))
    (λ e. rw e (omega arith))

nearer_under : (above g b : ℕ) → above < g → nearer_of above g b ≤ g
unfolding nearer_of
nearer_under above g b h = rw (lt-ltb above g h) (cases _ (ltb g b) (λ f. rw f (omega arith)) (λ f. let a = ltb-false g b f in rw f (omega arith)))

nearer_is : (above g b : ℕ) → nearer_of above g b < b → (above < g) × (nearer_of above g b ≡ g)
unfolding nearer_of
nearer_is above g b h = cases _ (ltb above g)
    (λ e. let a = ltb-true above g e in cases _ (ltb g b)
    (λ f. (a, rw (e, f)))
    (λ f. absurd (let z = rw (e, f) at h in omega arith)))
    (λ e. absurd (let z = rw e at h in omega arith))

module _ (key : ℕ → ℕ) (above : ℕ) where
  least_le : (b : ℕ) (xs : List ℕ) → least_from key above b xs ≤ b
  unfolding least_from
  least_le b [] = omega arith
  least_le b (x ∷ xs) = omega (arith, least_le (nearer_of above (key x) b) xs, nearer_le above (key x) b)

  -- between `above` and the least there is no member
  least_gap : (b : ℕ) (xs : List ℕ) (h : ℕ) → above < h → h < least_from key above b xs → members key h xs ≡ []
  unfolding least_from members
  least_gap b [] h k l = refl
  least_gap b (x ∷ xs) h k l =
      rw (ne_eqb (key x) h (λ e. let u = nearer_under above (key x) b (omega arith) in omega (arith, least_le (nearer_of above (key x) b) xs)))
      (least_gap (nearer_of above (key x) b) xs h k l)

  -- and the least, where it is below the bound, has one
  least_found : (b : ℕ) (xs : List ℕ) → least_from key above b xs < b → (above < least_from key above b xs) × (0 < length (members key (least_from key above b xs) xs))
  unfolding least_from members
  least_found b [] h = absurd (omega arith)
  least_found b (x ∷ xs) h =
      let c = nearer_of above (key x) b in
      let r = least_from key above c xs in
      cases _ (ltb r c)
      (λ e. let f = least_found c xs (ltb-true r c e) in (f.0, longer r f.1))
      (λ e.
      let q : r ≡ c = omega (arith, ltb-false r c e, least_le c xs) in
      let n = nearer_is above (key x) b (omega arith) in
      (omega (arith, n.0, n.1), rw (eq-eqb (key x) r (sym n.1 ∙ sym q)) (omega arith)))
    where
      longer : (r : ℕ) → 0 < length (members key r xs) → 0 < length (pick (eqb (key x) r) (x ∷ members key r xs) (members key r xs))
      longer r h = cases _ (eqb (key x) r) (λ e. rw e (omega arith)) (λ e. rw e h)

-- ---- groups without members are passed over

module _ (key : ℕ → ℕ) (m : ℕ) (line : List ℕ) where
  skip : (k n g : ℕ) → ((h : ℕ) → g ≤ h → h < g + k → members key h line ≡ []) → queries key m line (k + n) g ≡ queries key m line n (g + k)
  unfolding queries
  skip zero n g h = let e : 0 + n ≡ n = omega arith in let f : g + 0 ≡ g = omega arith in rw (e, f)
  skip (suc k) n g h =
      let e : suc k + n ≡ suc (k + n) = omega arith in
      let f : g + suc k ≡ suc g + k = omega arith in
      rw (e, f, h g (omega arith) (omega arith), chunks_none (width_of m g)) (skip k n (suc g) (λ j a b. h j (omega arith) (omega arith)))

  none_left : (n g : ℕ) → ((h : ℕ) → g ≤ h → h < g + n → members key h line ≡ []) → queries key m line n g ≡ []
  unfolding queries
  none_left n g h = let e : n + 0 ≡ n = omega arith in rw e at (skip n 0 g h)

-- ---- one query taken

first_of : (ys : List ℕ) → take (chunk_of ys).count (chunk_of ys).pids ≡ ys
unfolding padded
first_of ys = take-append_seam ys _

-- What is left is read off the group and the place alone.
left_at : (p : Plan) (g i : ℕ) → left_of (moved_to p g i)
    ≡ chunks (width_of p.maxpids g) (members (key_in p) g (drop i (line_of p))) ++ queries (key_in p) p.maxpids (line_of p) (256 - g) (suc g)
unfolding left_of key_in line_of
left_at p g i = refl

-- A group asked from a place on: its first chunk, then what is left.
taken_left : (p : Plan) (g from : ℕ) → 0 < length (members (key_in p) g (drop from (line_of p)))
    → left_of (moved_to p g from) ≡ take (gathered p g from).chunk.count (gathered p g from).chunk.pids ∷ left_of (gathered p g from).plan
unfolding gather_of
taken_left p g from some =
    let w = width_of p.maxpids g in
    let ms = members (key_in p) g (drop from (line_of p)) in
    let pass = passed (key_in p) g w (drop from (line_of p)) in
    let d = rw drop-drop at (members_passed (key_in p) g w (drop from (line_of p))) in
    rw (left_at p g from, left_at p g (from + pass), first_of (take w ms), chunks_some w ms (width_pos p.maxpids g) some, d)

some_taken : (w : ℕ) (xs : List ℕ) → 0 < w → (length (take w xs) ≡ 0 → ⊥) → 0 < length xs
some_taken w [] h k = absurd (k (rw length-take (omega arith)))
some_taken w (x ∷ xs) h k = omega arith

none_taken : (w : ℕ) (xs : List ℕ) → 0 < w → length (take w xs) ≡ 0 → xs ≡ []
none_taken w xs h e = none_of xs (let a = rw length-take at e in omega arith)

-- A group with nothing left to ask: what is left begins with the next group that has members.
module _ (p : Plan) (none : members (key_in p) p.group (drop p.at (line_of p)) ≡ []) where
  later : left_of p ≡ queries (key_in p) p.maxpids (line_of p) (256 - p.group) (suc p.group)
  later = rw (left_at p p.group p.at, none, chunks_none (width_of p.maxpids p.group))

  gap : (h : ℕ) → suc p.group ≤ h → h < least_in p p.group → members (key_in p) h (line_of p) ≡ []
  unfolding least_in
  gap h a b = least_gap (key_in p) p.group 257 (line_of p) h a b

  done_left : 256 < least_in p p.group → left_of p ≡ []
  done_left h = later ∙ none_left (key_in p) p.maxpids (line_of p) (256 - p.group) (suc p.group) (λ j a b. gap j a (omega arith))

  module _ (h : least_in p p.group ≤ 256) where
    found : (p.group < least_in p p.group) × (0 < length (members (key_in p) (least_in p p.group) (line_of p)))
    unfolding least_in
    found = least_found (key_in p) p.group 257 (line_of p) (omega arith)

    next_left : left_of p ≡ left_of (moved_to p (least_in p p.group) 0)
    unfolding queries
    next_left =
        let g = p.group in
        let l = least_in p g in
        let b = found.0 in
        let e : 256 - g ≡ (l - suc g) + suc (256 - l) = omega arith in
        let f : suc g + (l - suc g) ≡ l = omega arith in
        later ∙ rw e (skip (key_in p) p.maxpids (line_of p) (l - suc g) (suc (256 - l)) (suc g) (λ j a c. gap j a (omega arith)) ∙ rw (f, left_at p l 0))

-- The first of what is left is taken; nothing is taken where nothing is left.
pub take_left : (p : Plan) → left_of p ≡ pick (eqb (take_of p).chunk.count 0) [] (take (take_of p).chunk.count (take_of p).chunk.pids ∷ left_of (take_of p).plan)
unfolding gather_of
take_left p =
    let g = p.group in
    let w = width_of p.maxpids g in
    let ms = members (key_in p) g (drop p.at (line_of p)) in
    let pos = width_pos p.maxpids g in
    cases _ (eqb (length (take w ms)) 0)
    (λ e. let z = eqb-true (length (take w ms)) 0 e in
    let none = none_taken w ms pos z in
    let l = least_in p g in
    cases _ (ltb 256 l)
    (λ f. let h = ltb-true 256 l f in rw (take_done p z h) (done_left p none h))
    (λ f. let h = ltb-false 256 l f in
    let some = (found p none h).1 in
    let there = members (key_in p) l (line_of p) in
    let v = width_of p.maxpids l in
    rw (take_next p z h, ne_eqb (length (take v there)) 0 (λ u. let a = rw length-take at u in omega (arith, width_pos p.maxpids l)))
    (next_left p none h ∙ taken_left p l 0 some)))
    (λ e. let z = eqb-false (length (take w ms)) 0 e in
    rw (take_here p z, e) (taken_left p g p.at (some_taken w ms pos z)))

-- ---- at the begin

group_some : (count : ℕ) (known : Bool) → group_of count known ≡ 0 → ⊥
unfolding group_of
group_some count true e = cases _ (eqb count 0)
    (λ f. let a = rw f at e in omega arith)
    (λ f. let a = rw f at e in eqb-false count 0 f a)
group_some count false e = omega arith

no_members : (key : ℕ → ℕ) (g : ℕ) (xs : List ℕ) → ((q : ℕ) → key q ≡ g → ⊥) → members key g xs ≡ []
unfolding members
no_members key g [] h = refl
no_members key g (x ∷ xs) h = rw (ne_eqb (key x) g (h x)) (no_members key g xs h)

line_small : (n : ℕ) → n ≤ 512 → line_size n ≡ n
unfolding line_size
line_small n h = cases _ (ltb n 512) (λ e. rw e) (λ e. let a = ltb-false n 512 e in rw e (omega arith))

key_some : (p : Plan) (q : ℕ) → key_in p q ≡ 0 → ⊥
unfolding key_in
key_some p q e = group_some (get_or p.counts q 0) (get_or p.known q false) e

-- No group is asked yet, and group 0 has no members.
from_start : (p : Plan) → left_of (moved_to p 0 0) ≡ queries (key_in p) p.maxpids (line_of p) 256 1
from_start p =
    let none = no_members (key_in p) 0 (line_of p) (key_some p) in
    left_at p 0 0 ∙ ap (λ (ms : List ℕ). chunks (width_of p.maxpids 0) ms ++ queries (key_in p) p.maxpids (line_of p) 256 1) none
    ∙ ap (λ (qs : List (List ℕ)). qs ++ queries (key_in p) p.maxpids (line_of p) 256 1) (chunks_none (width_of p.maxpids 0))

-- The groups by what is known: document 01's keys.
abbrev pub keys_of : List ℕ → List Bool → ℕ → ℕ
keys_of counts known q = group_of (get_or counts q 0) (get_or known q false)

module _ (fast slow : PidList) (counts : List ℕ) (known : List Bool) (maxpids : ℕ) (f : length fast.pids ≡ 256) (s : length slow.pids ≡ 256) where
  -- The line is fast, then slow.
  pub plan_line : line_of (plan_of fast slow counts known maxpids) ≡ entries fast ++ entries slow
  unfolding line_of plan_of padded
  plan_line =
      let n = size_le fast.len in
      let m = size_le slow.len in
      let e : line_size (size_of fast.len + size_of slow.len) ≡ length (entries fast ++ entries slow)
      = line_small (size_of fast.len + size_of slow.len) (omega arith) ∙ sym (rw (length-append, size_entries fast f, size_entries slow s)) in
      rw e (take-append_seam (entries fast ++ entries slow) _)

  -- What is left is the whole round.
  pub plan_left : left_of (plan_of fast slow counts known maxpids) ≡ round_of (keys_of counts known) maxpids (entries fast ++ entries slow)
  unfolding round_of plan_of key_in
  plan_left =
      from_start (plan_of fast slow counts known maxpids) ∙ ap (λ (l : List ℕ). queries (keys_of counts known) maxpids l 256 1) plan_line
