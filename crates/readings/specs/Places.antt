-- Where the deliveries that are due stand in a history. Nothing here is of the box.
use Rattle.std.specs.Prelude.{true, false, ◌||◌, List, [], ◌∷◌, ◌++◌, ◌≡◌, refl, ℕ, suc, ◌<◌, ◌≤◌}
use Rattle.std.proofs.Math.Bool.{or-true}
use Rattle.std.proofs.Common.{arith}
use Rattle.base.specs.Choice.{cases}
use Rattle.reply.specs.declared.Reply.{Reply}
use Rattle.obd2.specs.History.{Event}
use Rattle.readings.specs.Claim.{Deed, deed, nothing, delivery, Figures, start, after, read_from, read}

-- What every event keeps holds after a history.
read_keeps : (P : Figures → Type 0) → ((d : Deed) (v : Figures) → P v → P (after d v)) → (h : List Event) (v : Figures) → P v → P (read_from v h)
unfolding read_from
read_keeps P f [] v k = k
read_keeps P f (e ∷ h) v k = read_keeps P f h (after (deed e) v) (f (deed e) v k)

read_append : (h k : List Event) (v : Figures) → read_from v (h ++ k) ≡ read_from (read_from v h) k
unfolding read_from
read_append [] k v = refl
read_append (e ∷ h) k v = read_append h k (after (deed e) v)

pub no_delivery : {P : Type 0} {i : ℕ} {r : Reply} → nothing ≡ delivery i r → P
no_delivery e = absurd (let z : ◌≡◌ {A = ℕ} 0 1 = cc in omega arith)

-- What is due after an event came by it, or was due before.
module _ (d : Deed) (v : Figures) (c p : ℕ) {i : ℕ} {r : Reply} where
  pub due_from : {P : Type 0} → (d.brings p ≡ true → delivery v.place (d.reply p) ≡ delivery i r → P)
      → (d.brings p ≡ false → v.pending c p ≡ delivery i r → P) → (after d v).pending c p ≡ delivery i r → P
  due_from f g e = cases _ (d.enters c || d.hands c p)
      (λ a. no_delivery (rw a at e))
      (λ a. cases _ (d.brings p) (λ b. f b (rw (a, b) at e)) (λ b. g b (rw (a, b) at e)))

  came : (P : ℕ → Type 0) → P v.place → (v.pending c p ≡ delivery i r → P i) → (after d v).pending c p ≡ delivery i r → P i
  came P h f = due_from (λ b e. let z : v.place ≡ i = cc in rw (← z) h) (λ b. f)

-- What is due is the newest, and came before now.
pub record Placed (v : Figures) : Type 0 where
  pub is_newest : (c p i : ℕ) (r : Reply) → v.pending c p ≡ delivery i r → v.newest p ≡ delivery i r
  pub is_before : (c p i : ℕ) (r : Reply) → v.pending c p ≡ delivery i r → i < v.place

pub start_placed : Placed start
start_placed = record { is_newest = λ c p i r e. e; is_before = λ c p i r e. no_delivery e }

pub placed_after : (d : Deed) (v : Figures) → Placed v → Placed (after d v)
placed_after d v k =
    record {
      is_newest = λ c p i r. due_from d v c p (λ b e. rw b e) (λ b e. rw b (k.is_newest c p i r e));
      is_before = λ c p i r. came d v c p (λ j. j < suc v.place) (omega arith) (λ e. let z = k.is_before c p i r e in omega arith);
    }

-- What is due to c came at place m or later.
record Since (c p m : ℕ) (v : Figures) : Type 0 where
  now : m ≤ v.place
  later : (i : ℕ) (r : Reply) → v.pending c p ≡ delivery i r → m ≤ i

module _ (c p : ℕ) (d : Deed) (v : Figures) where
  since_after : (m : ℕ) → Since c p m v → Since c p m (after d v)
  since_after m k = let z = k.now in record { now = omega arith; later = λ i r. came d v c p (λ j. m ≤ j) z (k.later i r) }

  -- What is handed out is due no longer.
  since_handed : d.hands c p ≡ true → Since c p (suc v.place) (after d v)
  since_handed g = record { now = omega arith; later = λ i r e. no_delivery (rw (g, or-true (d.enters c)) at e) }

pub due_later : (c p : ℕ) (h k : List Event) (e : Event) (i j : ℕ) (r y : Reply)
    → (deed e).hands c p ≡ true → (read h).pending c p ≡ delivery i r → (read (h ++ (e ∷ k))).pending c p ≡ delivery j y → i < j
unfolding read_from
due_later c p h k e i j r y g q u =
    let v = read h in
    let m = suc v.place in
    let a = (read_keeps Placed placed_after h start start_placed).is_before c p i r q in
    let b = (read_keeps (Since c p m) (λ d w. since_after c p d w m) k (after (deed e) v) (since_handed c p (deed e) v g)).later j y (rw (read_append h (e ∷ k) start) at u) in
    omega arith
