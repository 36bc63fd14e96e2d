-- Laws of the control line: what is pushed waits last, what is taken was first.
use Rattle.std.proofs.Math.Bool.{false}
use Rattle.std.specs.Prelude.{None, Some, List, [], ◌∷◌, ◌++◌, ◌≡◌, refl, ltb, length, get_or, set, take, drop}
use Rattle.std.proofs.Common.{ltb-false, take_all, append_assoc, append-nil, sym, ◌∙◌, drop_of_length-le, get_or-set_other, drop-cons}
use Rattle.std.proofs.Math.Path.{ap}
use Prim.Native.Nat.{ℕ, zero, suc, ◌+◌, ◌-◌, ◌%◌, ◌<◌, ◌≤◌, min}
use native.Mathlib.Omega.{arith}
use Rattle.std.proofs.Math.Numerals.{add-one}
use Rattle.std.proofs.Math.Dec.{eqb}
use Rattle.std.proofs.Math.ListN.{length-set}
use Rattle.std.proofs.lemmas.List.{length-replicate}
use Rattle.std.proofs.Math.Seq.{get_or-set_same}
use borrow.Author.Tests.{lt-ltb, ltb-true, ne_eqb, eq-eqb}
use Rattle.base.specs.Choice.{cases}
use Rattle.control.specs.Outbox.{messages}
use Rattle.control.specs.declared.outbox.Outbox.{Outbox}
use Rattle.control.specs.declared.DongleMessage.{DongleMessage}
use Rattle.control_line.specs.declared.ControlLine.{ControlLine}
use Rattle.control_line.specs.Ring.{unused, empty_line, push_of, push_all_of, take_of, from, waiting, Sound}

pub empty_sound : Sound empty_line
unfolding empty_line
empty_sound = record { whole = length-replicate 1024 unused; within = omega arith }

pub empty_waiting : waiting empty_line ≡ []
unfolding waiting empty_line from
empty_waiting = refl

-- Only a place's remainder counts.
from_again : (slots : List DongleMessage) (n at to : ℕ) → at % 1024 ≡ to % 1024 → from slots at n ≡ from slots to n
unfolding from
from_again slots zero at to e = refl
from_again slots (suc n) at to e =
    let z : suc at % 1024 ≡ suc to % 1024 = omega arith in
    rw (e, from_again slots n (suc at) (suc to) z)

-- What is written into a place that none of n messages has leaves them as they are.
from_other : (slots : List DongleMessage) (x : DongleMessage) (n at p : ℕ) → ((j : ℕ) → j < n → (at + j) % 1024 ≡ p → ⊥) → from (set slots p x) at n ≡ from slots at n
unfolding from
from_other slots x zero at p h = refl
from_other slots x (suc n) at p h =
    let z : at + 0 ≡ at = omega arith in
    rw (
      get_or-set_other slots p (at % 1024) x unused (λ e. h 0 (omega arith) (rw z e)),
      from_other slots x n (suc at) p (λ j k e. h (suc j) (omega arith) (let y : at + suc j ≡ suc at + j = omega arith in rw y e)),
    )

from_last : (slots : List DongleMessage) (n at : ℕ) → from slots at (suc n) ≡ from slots at n ++ (get_or slots ((at + n) % 1024) unused ∷ [])
unfolding from
from_last slots zero at = let z : at + 0 ≡ at = omega arith in rw z
from_last slots (suc n) at =
    let z : at + suc n ≡ suc at + n = omega arith in
    rw z (ap (λ (x : List DongleMessage). get_or slots (at % 1024) unused ∷ x) (from_last slots n (suc at)))

module _ (l : ControlLine) (s : Sound l) where
  pub push_sound : (m : DongleMessage) → Sound (push_of l m)
  unfolding push_of
  push_sound m =
      let w = s.whole in
      cases _ (ltb l.count 1024)
      (λ e. let h = ltb-true l.count 1024 e in rw e (record { whole = simp length-set w; within = omega arith }))
      (λ e. rw e s)

  -- What is pushed waits last.
  pub push_waiting : (m : DongleMessage) → l.count < 1024 → waiting (push_of l m) ≡ waiting l ++ (m ∷ [])
  unfolding waiting push_of
  push_waiting m h =
      let w = s.whole in
      let p = (l.head + l.count) % 1024 in
      rw (
        lt-ltb l.count 1024 h,
        add-one,
        from_last,
        from_other l.slots m l.count l.head p (λ j k e. omega arith),
        get_or-set_same l.slots p m unused (omega arith),
      )

  pub push_count : (m : DongleMessage) → l.count < 1024 → (push_of l m).count ≡ l.count + 1
  unfolding push_of
  push_count m h = rw (lt-ltb l.count 1024 h)

  pub take_sound : Sound (take_of l).line
  unfolding take_of
  take_sound =
      let w = s.whole in
      let n = s.within in
      cases _ (eqb l.count 0)
      (λ e. rw e s)
      (λ e. rw e (record { whole = w; within = omega arith }))

-- What is taken was first; from an empty line there is nothing to take.
module _ (l : ControlLine) where
  none : l.count ≡ 0 → (waiting l ≡ []) × (take_of l ≡ record { line = l; taken = None })
  unfolding waiting take_of from
  none e = (rw e, rw (eq-eqb l.count 0 e))

  some : (n : ℕ) → l.count ≡ suc n
      → (waiting l ≡ get_or l.slots (l.head % 1024) unused ∷ waiting (take_of l).line) × ((take_of l).taken ≡ Some (get_or l.slots (l.head % 1024) unused))
  unfolding waiting take_of from
  some n e =
      let t : eqb (suc n) 0 ≡ false = ne_eqb (suc n) 0 (λ z. omega arith) in
      let k : suc n - 1 ≡ n = omega arith in
      let r = from_again l.slots n (suc l.head) ((l.head % 1024 + 1) % 1024) (omega arith) in
      (rw (e, t, k, r), rw (e, t))

  pub take_first : (m : DongleMessage) (ms : List DongleMessage) → waiting l ≡ m ∷ ms
      → ((take_of l).taken ≡ Some m) × (waiting (take_of l).line ≡ ms)
  take_first m ms e = go l.count refl
    where
      go : (n : ℕ) → l.count ≡ n → ((take_of l).taken ≡ Some m) × (waiting (take_of l).line ≡ ms)
      go zero z = absurd (let a = (none z).0 in let b : ◌≡◌ {A = ℕ} 0 1 = cc in omega arith)
      go (suc n) z = let a = some n z in let b = a.0 in let d = a.1 in (cc, cc)

  pub take_none : waiting l ≡ [] → take_of l ≡ record { line = l; taken = None }
  take_none e = go l.count refl
    where
      go : (n : ℕ) → l.count ≡ n → take_of l ≡ record { line = l; taken = None }
      go zero z = (none z).1
      go (suc n) z = absurd (let a = (some n z).0 in let b : ◌≡◌ {A = ℕ} 0 1 = cc in omega arith)

-- Several messages wait in their order, where there is room for them.
pub push_all : (ms : List DongleMessage) (l : ControlLine) → Sound l → l.count + length ms ≤ 1024
    → (waiting (push_all_of l ms) ≡ waiting l ++ ms) × ((push_all_of l ms).count ≡ l.count + length ms) × Sound (push_all_of l ms)
unfolding push_all_of
push_all [] l s h = (sym (append-nil (waiting l)), omega arith, s)
push_all (m ∷ ms) l s h =
    let c = push_count l s m (omega arith) in
    let r = push_all ms (push_of l m) (push_sound l s m) (omega arith) in
    (r.0 ∙ (rw (push_waiting l s m (omega arith)) (append_assoc (waiting l) (m ∷ []) ms)), (let k = r.1 in omega arith), r.2)

-- Messages pushed one at a time.
module _ (ms : List DongleMessage) (l : ControlLine) (i : ℕ) where
  pub pushed_turn : (d : DongleMessage) → i < length ms → push_all_of l (drop i ms) ≡ push_all_of (push_of l (get_or ms i d)) (drop (i + 1) ms)
  unfolding push_all_of
  pushed_turn d h = rw (drop-cons ms i d h, add-one)

  pub pushed_end : length ms ≤ i → push_all_of l (drop i ms) ≡ l
  unfolding push_all_of
  pushed_end h = rw (drop_of_length-le ms {i = i} h)

-- The messages of an outbox: it has no more than 257, whatever its count.
pub messages_held : (o : Outbox) → length o.slots ≡ 257 → take (min o.count 257) o.slots ≡ messages o
unfolding messages
messages_held o whole = cases _ (ltb o.count 257)
    (λ e. let h = ltb-true o.count 257 e in let z : min o.count 257 ≡ o.count = omega arith in rw z)
    (λ e. let h = ltb-false o.count 257 e in
    let z : min o.count 257 ≡ 257 = omega arith in
    rw (z, take_all 257 o.slots (omega arith), take_all o.count o.slots (omega arith)))
