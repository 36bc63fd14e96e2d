-- Laws of the definitions of `Pairs`.
use Rattle.std.specs.Prelude.{Bool, true, false, ◌&&◌, ◌≡◌, refl, ℕ, zero, suc, ◌+◌, ◌-◌, ◌*◌, ◌/◌, ◌%◌, ◌<◌, ◌≤◌, eqb, ltb, max, take, drop, Option, Some, None, Err}
use mathlib.Core.List.{List, [], ◌∷◌, ◌++◌}
use Rattle.std.proofs.Math.Path.{ap, sym}
use Rattle.std.proofs.Common.{◌∙◌, length-drop, drop_of_length-le, drop-cons, take_all, length-take-le}
use native.Mathlib.Omega.{arith}
use Rattle.std.proofs.Math.Numerals.{add-one}
use Rattle.std.proofs.Math.ListN.{length, get_or, set, length-set}
use Rattle.std.proofs.Math.Seq.{take-suc}
use borrow.Author.Tests.{lt-ltb, le-ltb, ltb-true, ltb-false, eq-eqb, ne_eqb}
use Rattle.ascii.specs.Chars.{hex_value, hex_of, hex_digit, hex_some, hex_none}
use Rattle.base.specs.Choice.{cases, false_true}
use Rattle.base.specs.Letters.{letter}
use Rattle.base.specs.Write.{over, over_none, over_one, over_length, over_over, over_cons}
use Rattle.hex_text.specs.Pairs.{pid_of, is_hex, pair_of, hexes, is_pairs, pairs, bytes_of, read_of, plain_of, copy_of, command_of, command_bytes, hex_text, Filled}
use Rattle.hex_text.specs.declared.Unread.TheVariants as unread

-- The highest of the values so far, and of one more: all are digits if it is one.
pub highest_digit : (h v : ℕ) (x : Bool) → ltb h 16 && (ltb v 16 && x) ≡ (ltb (max h v) 16 && x)
highest_digit h v x =
    cases _ (ltb h 16)
    (λ e. let k = ltb-true h 16 e in
    cases _ (ltb v 16)
    (λ f. let l = ltb-true v 16 f in rw (e, f, lt-ltb (max h v) 16 (omega arith)))
    (λ f. let l = ltb-false v 16 f in rw (e, f, le-ltb (max h v) 16 (omega arith))))
    (λ e. let k = ltb-false h 16 e in rw (e, le-ltb (max h v) 16 (omega arith)))

pub and_true : (b : Bool) → (b && true) ≡ b
and_true true = refl
and_true false = refl

-- The cases of a PID.
module _ (s : List ℕ) where
  pub pid_length : (length s ≡ 2 → ⊥) → None ≡ pid_of s
  unfolding pid_of
  pid_length h = rw (ne_eqb (length s) 2 h)

  module _ (h : length s ≡ 2) where
    pub pid_first : (r : Option ℕ) → r ≡ hex_of (get_or s 0 0) → r ≡ None → None ≡ pid_of s
    unfolding pid_of is_hex
    pid_first r e f = rw (eq-eqb (length s) 2 h, hex_none (get_or s 0 0) r e f)

    module _ (r : Option ℕ) (e : r ≡ hex_of (get_or s 0 0)) (a : ℕ) (f : r ≡ Some a) where
      pub pid_second : (q : Option ℕ) → q ≡ hex_of (get_or s 1 0) → q ≡ None → None ≡ pid_of s
      unfolding pid_of is_hex
      pid_second q g k =
          let d = hex_some (get_or s 0 0) r e a f in
          rw (eq-eqb (length s) 2 h, d.0, lt-ltb a 16 d.1, hex_none (get_or s 1 0) q g k)

      pub pid_both : (q : Option ℕ) (b : ℕ) → q ≡ hex_of (get_or s 1 0) → q ≡ Some b → Some (a * 16 + b) ≡ pid_of s
      unfolding pid_of is_hex pair_of
      pid_both q b g k =
          let d = hex_some (get_or s 0 0) r e a f in
          let l = hex_some (get_or s 1 0) q g b k in
          rw (eq-eqb (length s) 2 h, d.0, lt-ltb a 16 d.1, l.0, lt-ltb b 16 l.1)

-- A look at the digits from the front: what is left of it at place i.
module _ (s : List ℕ) (i : ℕ) where
  pub hexes_next : i < length s → hexes (drop i s) ≡ (ltb (hex_value (get_or s i 0)) 16 && hexes (drop (i + 1) s))
  unfolding hexes is_hex
  hexes_next h = rw (drop-cons s i 0 h, add-one i)

  pub hexes_end : length s ≤ i → hexes (drop i s) ≡ true
  unfolding hexes
  hexes_end h = rw (drop_of_length-le s h)

both : (a b : Bool) → a && b ≡ true → b ≡ true
both true b e = e
both false b e = false_true e

first : (a b : Bool) → a && b ≡ true → a ≡ true
first true b e = refl
first false b e = false_true e

hexes_at : (s : List ℕ) (i : ℕ) → i < length s → hexes s ≡ true → hex_value (get_or s i 0) < 16
unfolding hexes is_hex
hexes_at [] i h e = absurd (omega arith)
hexes_at (b ∷ s) zero h e = ltb-true _ _ (first (ltb (hex_value b) 16) (hexes s) e)
hexes_at (b ∷ s) (suc i) h e = hexes_at s i (omega arith) (both (ltb (hex_value b) 16) (hexes s) e)

-- Each digit of pairs is one.
pub pairs_digit : (s : List ℕ) (i : ℕ) → i < length s → is_pairs s ≡ true → hex_value (get_or s i 0) < 16
unfolding is_pairs
pairs_digit s i h e = hexes_at s i h (both (eqb (length s % 2) 0) (hexes s) e)

pub pairs_length : (s : List ℕ) → length (pairs s) ≡ length s / 2
unfolding pairs
pairs_length [] = omega arith
pairs_length (h ∷ []) = omega arith
pairs_length (h ∷ l ∷ s) = omega (arith, pairs_length s)

pub pairs_at : (s : List ℕ) (i : ℕ) → i < length s / 2 → get_or (pairs s) i 0 ≡ pair_of (get_or s (2 * i) 0) (get_or s (2 * i + 1) 0)
unfolding pairs
pairs_at [] i h = absurd (omega arith)
pairs_at (a ∷ []) i h = absurd (omega arith)
pairs_at (a ∷ b ∷ s) zero h = refl
pairs_at (a ∷ b ∷ s) (suc i) h =
    let y : 2 * suc i ≡ suc (suc (2 * i)) = omega arith in
    let z : 2 * suc i + 1 ≡ suc (suc (2 * i + 1)) = omega arith in
    rw (z, y) (pairs_at s i (omega arith))

-- One byte more of a text that is written from the front.
pub over_next : (d xs : List ℕ) (i : ℕ) → i < length xs → length xs ≤ length d
    → set (over d 0 (take i xs)) i (get_or xs i 0) ≡ over d 0 (take (i + 1) xs)
over_next d xs i h k =
    let n : 0 + length (take i xs) ≡ i = omega (arith, length-take-le i xs (omega arith)) in
    let l : length (over d 0 (take i xs)) ≡ length d = over_length d 0 (take i xs) (omega arith) in
    let e = rw n at (over_over d 0 (take i xs) (omega arith) (get_or xs i 0 ∷ [])) in
    rw (add-one i, take-suc xs i 0 h) (sym (over_one (over d 0 (take i xs)) i (get_or xs i 0) (omega arith)) ∙ e)

-- The pairs of a text of bytes, one behind the other.
pub text_length : (s : List ℕ) → length (hex_text s) ≡ 2 * length s
unfolding hex_text
text_length [] = omega arith
text_length (b ∷ s) = omega (arith, text_length s)

pub text_append : (xs ys : List ℕ) → hex_text (xs ++ ys) ≡ hex_text xs ++ hex_text ys
unfolding hex_text
text_append [] ys = refl
text_append (x ∷ xs) ys = rw (text_append xs ys)

module _ (d : List ℕ) (at : ℕ) (bytes : List ℕ) (fits : at + 2 * length bytes ≤ length d) where
  pub filled_none : Filled d at bytes 0 at d
  unfolding hex_text
  filled_none = record { place_is = omega arith; out_is = sym (over_none d at) }

  module _ (i place : ℕ) (out : List ℕ) (f : Filled d at bytes i place out) where
    wide : i ≤ length bytes → length (hex_text (take i bytes)) ≡ 2 * i
    wide h = omega (arith, text_length (take i bytes), length-take-le i bytes h)

    pub filled_same : i ≤ length bytes → length out ≡ length d
    filled_same h = let w = wide h in rw f.out_is (over_length d at (hex_text (take i bytes)) (omega arith))

    pub filled_next : i < length bytes
        → Filled d at bytes (i + 1) (place + 2) (set (set out place (hex_digit (get_or bytes i 0 / 16))) (place + 1) (hex_digit (get_or bytes i 0)))
    unfolding hex_text
    filled_next h =
        let w = wide (omega arith) in
        let p = f.place_is in
        let n = filled_same (omega arith) in
        let b = get_or bytes i 0 in
        let z : at + length (hex_text (take i bytes)) ≡ place = omega arith in
        let t : hex_text (take (i + 1) bytes) ≡ hex_text (take i bytes) ++ (hex_digit (b / 16) ∷ hex_digit b ∷ [])
        = rw (add-one i, take-suc bytes i 0 h) (text_append (take i bytes) (b ∷ [])) in
        let m : length (set out place (hex_digit (b / 16))) ≡ length out = length-set out place (hex_digit (b / 16)) in
        let two : set (set out place (hex_digit (b / 16))) (place + 1) (hex_digit b) ≡ over out place (hex_digit (b / 16) ∷ hex_digit b ∷ [])
        = sym (over_cons out place (hex_digit (b / 16)) (hex_digit b ∷ []) (omega arith) ∙ over_one (set out place (hex_digit (b / 16))) (place + 1) (hex_digit b) (omega arith)) in
        let both-digits = rw z at (over_over d at (hex_text (take i bytes)) (omega arith) (hex_digit (b / 16) ∷ hex_digit b ∷ [])) in
        record {
          place_is = omega arith;
          out_is = rw t (two ∙ ap (λ (x : List ℕ). over x place (hex_digit (b / 16) ∷ hex_digit b ∷ [])) f.out_is ∙ both-digits);
        }

-- The cases of a command's text, by its first byte.
module _ (room : ℕ) (d : List ℕ) where
  pub command_none : (s : List ℕ) → length s ≡ 0 → (command_of room s ≡ Err unread.Bad) × (command_bytes d s ≡ d)
  unfolding command_of command_bytes
  command_none [] h = (refl, refl)
  command_none (b ∷ s) h = absurd (omega arith)

  pub command_plain : (s : List ℕ) → (length s ≡ 0 → ⊥) → get_or s 0 0 ≡ letter "'"
      → (command_of room s ≡ plain_of room (drop 1 s)) × (command_bytes d s ≡ copy_of d (drop 1 s))
  unfolding command_of command_bytes
  command_plain [] h e = absurd (h refl)
  command_plain (b ∷ s) h e = (rw (eq-eqb b (letter "'") e), rw (eq-eqb b (letter "'") e))

  pub command_pairs : (s : List ℕ) → (length s ≡ 0 → ⊥) → (get_or s 0 0 ≡ letter "'" → ⊥) → get_or s 0 0 ≡ letter "x"
      → (command_of room s ≡ bytes_of room (drop 1 s)) × (command_bytes d s ≡ read_of d (drop 1 s))
  unfolding command_of command_bytes
  command_pairs [] h k e = absurd (h refl)
  command_pairs (b ∷ s) h k e = (rw (ne_eqb b (letter "'") k, eq-eqb b (letter "x") e), rw (ne_eqb b (letter "'") k, eq-eqb b (letter "x") e))

  pub command_other : (s : List ℕ) → (length s ≡ 0 → ⊥) → (get_or s 0 0 ≡ letter "'" → ⊥) → (get_or s 0 0 ≡ letter "x" → ⊥)
      → (command_of room s ≡ Err unread.Bad) × (command_bytes d s ≡ d)
  unfolding command_of command_bytes
  command_other [] h k e = absurd (h refl)
  command_other (b ∷ s) h k e = (rw (ne_eqb b (letter "'") k, ne_eqb b (letter "x") e), rw (ne_eqb b (letter "'") k, ne_eqb b (letter "x") e))

-- What stands behind the first byte.
pub rest_all : (s : List ℕ) → take (length s - 1) (drop 1 s) ≡ drop 1 s
rest_all s = take_all (length s - 1) (drop 1 s) (omega (arith, length-drop 1 s))
