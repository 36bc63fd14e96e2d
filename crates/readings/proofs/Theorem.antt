-- The claim of `Claim`, proved: the box is as its history is read, from the start and over every list of calls.
use Rattle.std.specs.Prelude.{List, [], ◌∷◌, ◌++◌, ◌≡◌, refl, ℕ, suc, ◌+◌, eqb, length, get_or, drop}
use Rattle.std.proofs.Common.{append_assoc, ap, sym, ◌∙◌, arith, length-append}
use Rattle.base.specs.Choice.{cases}
use Rattle.config.specs.Blank.{no_profiles}
use Rattle.config.specs.Defaults.{default_settings}
use Rattle.config.specs.declared.Profiles.{Profiles}
use Rattle.config.specs.declared.Settings.{Settings}
use Rattle.desk.specs.Laws.{start_law}
use Rattle.desk.specs.Rules.{start_desk}
use Rattle.link.specs.Rules.{start_link}
use Rattle.poller.specs.State.{start_of as startPoller}
use Rattle.obd2.specs.Call.{Call, Calls, none, more}
use Rattle.obd2.specs.History.{Event, event_of, start_of, step, happened}
use Rattle.obd2.specs.Refusals.{start_refusal}
use Rattle.obd2.specs.State.{started}
use Rattle.obd2.specs.declared.State.{State}
use Rattle.readings.specs.Claim.{deed, Figures, start, after, read_from, Right, Claim}
use Rattle.readings.proofs.Calls.{makes, no_earlier}
use Rattle.readings.specs.Handed.{right}
use Rattle.readings.specs.Places.{Placed, no_delivery, start_placed, placed_after, due_later}
use Rattle.readings.specs.Seen.{SeenBox, moves}

-- The start: nobody is registered, nothing is due, and there is no connection.
start_given : start_desk.given ≡ 0
unfolding start_desk
start_given = refl

started_seen : (t : ℕ) (st : Settings) (ps : Profiles) → SeenBox (started t st ps) start
unfolding started startPoller start_link
started_seen t st ps =
    record {
      sound = start_law.sound;
      is_here = start_law.is_registered;
      is_due = λ c p r. start_law.is_fresh c p;
      is_kept = λ c p i r q. no_delivery q;
      is_wait = start_law.waits;
      is_up = refl;
      is_given = start_given;
      is_past = λ c. rw (start_law.waits c) (omega arith);
    }

start_seen : (t : ℕ) (st : Settings) (ps : Profiles) → SeenBox (start_of t st ps).state start
unfolding start_of
start_seen t st ps = cases _ (eqb (start_refusal t st ps) 0)
    (λ e. rw e (started_seen t st ps))
    (λ e. rw e (started_seen 0 default_settings no_profiles))

-- The list of calls: v is what is read of the history so far.
walk : {cs : List Call} → Calls cs → (s : State) (v : Figures) → SeenBox s v → Placed v → (h₁ h₂ : List Event) (e : Event)
    → happened s cs ≡ h₁ ++ (e ∷ h₂) → Right (read_from v h₁) e
unfolding happened read_from
walk none s v k m h₁ h₂ e q =
    let z : length (h₁ ++ (e ∷ h₂)) ≡ length h₁ + suc (length h₂) = length-append h₁ (e ∷ h₂) in
    let y : 0 ≡ length (h₁ ++ (e ∷ h₂)) = ap length q in
    absurd (omega arith)
walk (more {c} {cs} f fs) s v k m [] h₂ e q =
    let z : event_of s c ≡ e = ap (λ (l : List Event). get_or l 0 e) q in
    rw (← z) (right s v k m c (makes s k.sound c f).handed)
walk (more {c} {cs} f fs) s v k m (x ∷ h₁) h₂ e q =
    let z : event_of s c ≡ x = ap (λ (l : List Event). get_or l 0 x) q in
    let n = moves k (no_earlier s k.sound c) (makes s k.sound c f) in
    rw (← z) (walk fs (step s c).state (after (deed (event_of s c)) v) n (placed_after (deed (event_of s c)) v m) h₁ h₂ e (ap (drop 1) q))

pub readings : Claim
readings t st ps cs fs =
    let each = walk fs (start_of t st ps).state start (start_seen t st ps) start_placed in
    record {
      each = each;
      once = λ h₁ h₂ h₃ e f c p q g l.
          let a = (each h₁ (h₂ ++ (f ∷ h₃)) e q).handed_newest c p g in
          let b = (each (h₁ ++ (e ∷ h₂)) h₃ f (q ∙ sym (append_assoc h₁ (e ∷ h₂) (f ∷ h₃)))).handed_newest c p l in
          record { first = a; second = b; later = due_later c p h₁ h₂ e a.place b.place a.reply b.reply g a.due b.due };
    }
