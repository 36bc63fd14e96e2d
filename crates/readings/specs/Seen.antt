-- The box and what is read of its history, side by side: what ties them, and how a deed moves both.
use Rattle.clients.specs.Rules.{since_in}
use Rattle.std.specs.Prelude.{Option, Bool, true, false, ◌&&◌, ◌||◌, not, ◌≡◌, refl, ℕ, ◌≤◌}
use Rattle.std.proofs.Common.{ap, sym, ◌∙◌, arith}
use Rattle.base.specs.Choice.{pick, false_true}
use Rattle.clients.specs.declared.Wait.{Wait}
use Rattle.desk.specs.Sound.{Sound, After}
use Rattle.desk.specs.declared.Desk.{Desk}
use Rattle.desk.specs.Rules.{registered, fresh, wait_of, stored}
use Rattle.reply.specs.declared.Reply.{Reply}
use Rattle.obd2.specs.declared.State.{State}
use Rattle.readings.specs.Claim.{Deed, Due, nothing, delivery, Figures, after}
use Rattle.readings.specs.Places.{due_from}

abbrev pub some : Due → Bool
some nothing = false
some (delivery i r) = true

-- The desk and the connection are as they are read.
pub record Seen (d : Desk) (on : Bool) (now : ℕ) (v : Figures) : Type 0 where
  pub sound : Sound d
  pub is_here : (c : ℕ) → registered d c ≡ v.here c
  pub is_due : (c p : ℕ) → v.here c ≡ true → fresh d c p ≡ some (v.pending c p)
  pub is_kept : (c p i : ℕ) (r : Reply) → v.pending c p ≡ delivery i r → stored d p ≡ r
  pub is_wait : (c : ℕ) → wait_of d c ≡ v.wait c
  pub is_up : on ≡ v.connected
  pub is_given : d.given ≡ v.given
  -- no wait began later than now
  pub is_past : (c : ℕ) → since_in (wait_of d c) ≤ now

abbrev pub SeenBox : State → Figures → Type 0
SeenBox s v = Seen s.desk s.poller.link.connected s.time v

-- A deed at time t makes desk n and connection up of desk d and connection on.
pub record Makes (d : Desk) (on : Bool) (x : Deed) (t : ℕ) (n : Desk) (up : Bool) : Type 0 where
  pub new : ℕ → ℕ → Bool
  pub desk : After
      n
      (λ c. pick (x.enters c) true (not (x.leaves c) && registered d c))
      new
      (λ c. x.waits c (wait_of d c))
      (λ p. pick (x.brings p) (x.reply p) (stored d p))
  pub marks : (c p : ℕ) → registered n c ≡ true → new c p ≡ (not (x.enters c || x.hands c p) && (x.brings p || fresh d c p))
  pub handed : (c p : ℕ) → x.hands c p ≡ true → fresh d c p ≡ true
  pub numbers : n.given ≡ x.gives d.given
  pub early : (c : ℕ) (w : Option Wait) → since_in w ≤ t → since_in (x.waits c w) ≤ t
  pub line : up ≡ x.links on

-- Who neither enters nor is handed a reading, and is here, was.
was_here : (a b l w : Bool) → (a || b) ≡ false → pick a true (not l && w) ≡ true → w ≡ true
was_here true b l w e h = false_true (sym e)
was_here false b true w e h = false_true h
was_here false b false w e h = h

due_after : (g b f : Bool) (i : ℕ) (r : Reply) (y : Due) → (g ≡ false → f ≡ some y) → (not g && (b || f)) ≡ some (pick g nothing (pick b (delivery i r) y))
due_after true b f i r y h = refl
due_after false true f i r y h = refl
due_after false false f i r y h = h refl

pub moves : {d n : Desk} {on up : Bool} {now t : ℕ} {v : Figures} {x : Deed} → Seen d on now v → now ≤ t → Makes d on x t n up → Seen n up t (after x v)
moves {d} {n} {on} {up} {now} {t} {v} {x} k l m =
    record {
      sound = m.desk.sound;
      is_here = here;
      is_due = λ c p h. m.desk.is_fresh c p ∙ m.marks c p (here c ∙ h)
          ∙ due_after (x.enters c || x.hands c p) (x.brings p) (fresh d c p) v.place (x.reply p) (v.pending c p)
          (λ g. k.is_due c p (was_here (x.enters c) (x.hands c p) (x.leaves c) (v.here c) g h));
      is_kept = λ c p i r q. m.desk.newest p ∙ due_from x v c p {i = i} {r = r} (λ b e. rw b (cc)) (λ b e. rw b (k.is_kept c p i r e)) q;
      is_wait = λ c. m.desk.waits c ∙ ap (x.waits c) (k.is_wait c);
      is_up = m.line ∙ ap x.links k.is_up;
      is_given = m.numbers ∙ ap x.gives k.is_given;
      is_past = λ c. rw (m.desk.waits c) (m.early c (wait_of d c) (let z = k.is_past c in omega arith));
    }
  where
    here : (c : ℕ) → registered n c ≡ (after x v).here c
    here c = m.desk.is_registered c ∙ ap (λ (b : Bool). pick (x.enters c) true (not (x.leaves c) && b)) (k.is_here c)
