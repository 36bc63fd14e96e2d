-- An input that is read byte by byte: each byte writes a text and leaves a state. Over parts of the input, however it is cut,
-- the texts are those of the whole.
use mathlib.Core.List.{List, [], ◌∷◌, ◌++◌, append_assoc, append-nil}
use Rattle.std.specs.Prelude.{◌≡◌, ℕ, ◌+◌, ◌-◌, ◌*◌, ◌<◌, ◌≤◌, length, take, get_or}
use Rattle.std.proofs.Math.Path.{refl}
use Rattle.std.proofs.Common.{sym, add-one, length-take-le}
use native.Mathlib.Omega.{arith}
use Rattle.std.proofs.Math.ListN.{length-append}
use Rattle.std.proofs.Math.Seq.{take-suc}
use Rattle.base.specs.Write.{over, over_none, over_length, over_over}

-- What one byte writes and the state behind it.
pub record Machine (S : Type 0) : Type 0 where
  pub text : S → ℕ → List ℕ
  pub next : S → ℕ → S

-- What a part of the input writes, and the state behind it.
unfoldable pub text_over : {S : Type 0} → Machine S → S → List ℕ → List ℕ
text_over m s [] = []
text_over m s (b ∷ bs) = m.text s b ++ text_over m (m.next s b) bs

unfoldable pub state_over : {S : Type 0} → Machine S → S → List ℕ → S
state_over m s [] = s
state_over m s (b ∷ bs) = state_over m (m.next s b) bs

-- What is written over the parts of an input, and what its end writes.
unfoldable pub written : {S : Type 0} → Machine S → (S → List ℕ) → S → List (List ℕ) → List ℕ
written m last s [] = last s
written m last s (p ∷ ps) = text_over m s p ++ written m last (state_over m s p) ps

unfoldable pub joined : List (List ℕ) → List ℕ
joined [] = []
joined (p ∷ ps) = p ++ joined ps

module _ {S : Type 0} (m : Machine S) where
  pub text_append : (s : S) (xs ys : List ℕ) → text_over m s (xs ++ ys) ≡ text_over m s xs ++ text_over m (state_over m s xs) ys
  unfolding text_over state_over
  text_append s [] ys = refl
  text_append s (b ∷ bs) ys = rw (text_append (m.next s b) bs ys) (sym (append_assoc (m.text s b) _ _))

  pub state_append : (s : S) (xs ys : List ℕ) → state_over m s (xs ++ ys) ≡ state_over m (state_over m s xs) ys
  unfolding state_over
  state_append s [] ys = refl
  state_append s (b ∷ bs) ys = state_append (m.next s b) bs ys

  -- THE CUT DOES NOT MATTER: parts write what the whole input does.
  pub parts_whole : (last : S → List ℕ) (s : S) (ps : List (List ℕ)) → written m last s ps ≡ text_over m s (joined ps) ++ last (state_over m s (joined ps))
  unfolding written joined text_over state_over
  parts_whole last s [] = refl
  parts_whole last s (p ∷ ps) =
      rw (text_append s p (joined ps), state_append s p (joined ps), parts_whole last (state_over m s p) ps)
      (sym (append_assoc (text_over m s p) _ _))

  -- One byte more of an input.
  module _ (s : S) (xs : List ℕ) (i : ℕ) (h : i < length xs) where
    text_next : text_over m s (take (i + 1) xs) ≡ text_over m s (take i xs) ++ m.text (state_over m s (take i xs)) (get_or xs i 0)
    unfolding text_over
    text_next = rw (add-one, take-suc xs i 0 h, text_append, append-nil)

    state_next : state_over m s (take (i + 1) xs) ≡ m.next (state_over m s (take i xs)) (get_or xs i 0)
    unfolding state_over
    state_next = rw (add-one, take-suc xs i 0 h, state_append)

-- A machine whose texts are bounded: what a state may still owe is known, and a byte adds at most k to what is owed and written.
pub record Bounded {S : Type 0} (m : Machine S) (owed : S → ℕ) (k : ℕ) : Type 0 where
  pub bound : (s : S) (b : ℕ) → length (m.text s b) + owed (m.next s b) ≤ owed s + k

-- The first i bytes of an input are fed into the memory d: the state then, how much is written, and the memory with it.
pub record Filled {S : Type 0} (m : Machine S) (s : S) (input d : List ℕ) (i : ℕ) (now : S) (at : ℕ) (out : List ℕ) : Type 0 where
  pub state_is : now ≡ state_over m s (take i input)
  pub at_is : at ≡ length (text_over m s (take i input))
  pub out_is : out ≡ over d 0 (text_over m s (take i input))

pub filled_none : {S : Type 0} (m : Machine S) (s : S) (input d : List ℕ) → Filled m s input d 0 s 0 d
unfolding state_over text_over
filled_none m s input d = record { state_is = refl; at_is = refl; out_is = sym (over_none d 0) }

module _ {S : Type 0} (m : Machine S) (owed : S → ℕ) (k : ℕ) (bounded : Bounded m owed k) where
  pub text_bound : (s : S) (xs : List ℕ) → length (text_over m s xs) + owed (state_over m s xs) ≤ owed s + k * length xs
  unfolding text_over state_over
  text_bound s [] = omega arith
  text_bound s (b ∷ bs) =
      let z = length-append (m.text s b) (text_over m (m.next s b) bs) in
      omega (arith, bounded.bound s b, text_bound (m.next s b) bs)

  module _ (s : S) (input d : List ℕ) (i : ℕ) (now : S) (at : ℕ) (out : List ℕ) (f : Filled m s input d i now at out) where
    written_le : i ≤ length input → length (text_over m s (take i input)) + owed now ≤ owed s + k * i
    written_le h =
        let n : length (take i input) ≡ i = length-take-le i input h in
        rw f.state_is (rw n at (text_bound s (take i input)))

    -- there is room for what is owed and for one byte more, and so for its text
    pub filled_most : i < length input → owed s + k * (i + 1) ≤ length d → at + (owed now + k) ≤ length out
    filled_most h l =
        let w = written_le (omega arith) in
        let a = f.at_is in
        let z : k * (i + 1) ≡ k * i + k = omega arith in
        rw (f.out_is, over_length d 0 (text_over m s (take i input)) (omega arith)) (omega arith)

    pub filled_room : (b : ℕ) → i < length input → owed s + k * (i + 1) ≤ length d → at + length (m.text now b) ≤ length out
    filled_room b h l = omega (arith, bounded.bound now b, filled_most h l)

    pub filled_same : i ≤ length input → owed s + k * i ≤ length d → length out ≡ length d
    filled_same h l =
        let w = written_le h in
        rw f.out_is (over_length d 0 (text_over m s (take i input)) (omega arith))

    pub filled_next : i < length input → owed s + k * i ≤ length d
        → Filled m s input d (i + 1) (m.next now (get_or input i 0)) (at + length (m.text now (get_or input i 0))) (over out at (m.text now (get_or input i 0)))
    filled_next h l =
        let w = written_le (omega arith) in
        let p = text_over m s (take i input) in
        let z : 0 + length p ≡ length p = omega arith in
        record {
          state_is = rw f.state_is (sym (state_next m s input i h));
          at_is = rw (text_next m s input i h, length-append, f.state_is, f.at_is);
          out_is = rw (text_next m s input i h, f.state_is, f.at_is, f.out_is) (rw z at (over_over d 0 p (omega arith) (m.text (state_over m s (take i input)) (get_or input i 0))));
        }

-- The first i bytes of an input are fed: the state then, and the text out, which is d with what they wrote behind it.
pub record Behind {S : Type 0} (m : Machine S) (s : S) (input d : List ℕ) (i : ℕ) (now : S) (out : List ℕ) : Type 0 where
  pub state_is : now ≡ state_over m s (take i input)
  pub out_is : out ≡ d ++ text_over m s (take i input)

pub behind_none : {S : Type 0} (m : Machine S) (s : S) (input d : List ℕ) → Behind m s input d 0 s d
unfolding state_over text_over
behind_none m s input d = record { state_is = refl; out_is = sym (append-nil d) }

module _ {S : Type 0} (m : Machine S) (s : S) (input d : List ℕ) (i : ℕ) (now : S) (out : List ℕ) (f : Behind m s input d i now out) where
  -- there is room for what is owed and for one byte more, and so for its text
  pub behind_room : (owed : S → ℕ) (k : ℕ) → Bounded m owed k → (b room : ℕ) → i < length input → length d ≤ room → owed s + k * (i + 1) ≤ room - length d
      → length out + length (m.text now b) ≤ room
  behind_room owed k bounded b room h g l =
      let n : length (take i input) ≡ i = length-take-le i input (omega arith) in
      let t = rw n at (text_bound m owed k bounded s (take i input)) in
      let o = bounded.bound (state_over m s (take i input)) b in
      let z : k * (i + 1) ≡ k * i + k = omega arith in
      rw (f.out_is, f.state_is, length-append) (omega arith)

  pub behind_next : i < length input → Behind m s input d (i + 1) (m.next now (get_or input i 0)) (out ++ m.text now (get_or input i 0))
  behind_next h =
      record {
        state_is = rw f.state_is (sym (state_next m s input i h));
        out_is = rw (text_next m s input i h, f.state_is, f.out_is) (append_assoc d _ _);
      }
