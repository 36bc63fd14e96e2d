-- What is read from the events alone is what the box has: one law a call.
use Rattle.std.specs.Prelude.{List, [], ◌∷◌, ◌≡◌, refl, ℕ, zero, suc, eqb}
use Rattle.std.proofs.Common.{ap, sym, ◌∙◌}
use Rattle.base.specs.Choice.{cases}
use Rattle.config.specs.declared.Profiles.{Profiles}
use Rattle.config.specs.declared.Settings.{Settings}
use Rattle.delivery.specs.Rules.{turn_of, turns_of, response_refusal, response_of, unanswered}
use Rattle.delivery.specs.declared.Answered.{Answered as Delivered}
use Rattle.reply.specs.declared.Response.{Response}
use Rattle.obd2.specs.Accepted.{manager_free}
use Rattle.obd2.specs.Call.{Call, manager, cache, settings, take_control, link, round, ManagerCall, Register, Leave, Respond, Changed, Waiting, Consumed, Tick}
use Rattle.obd2.specs.Done.{manager_by, managing, done_of}
use Rattle.obd2.specs.History.{start_of, step, run, happened}
use Rattle.obd2.specs.Keeps.{after, step_reads}
use Rattle.obd2.specs.Refusals.{start_refusal, manager_rows, refusal_of}
use Rattle.obd2.specs.State.{managed, started}
use Rattle.obd2.specs.declared.State.{State}
use Rattle.agreement.specs.Claim.{Reading, switched, profiles_after, event_by, managed_by, read_call, read, read_start, box_after, read_after}

-- The reading of a box.
abbrev pub read_off : State → Reading
read_off s = record { manager = s.manager; profiles = s.profiles; settings = s.settings }

-- The profiles that a response leaves depend on the profiles and the response alone.
pub turns_switched : (k i : ℕ) (r : Response) (a : Delivered) → (turns_of k i r a).profiles ≡ switched k i r a.profiles
unfolding turns_of turn_of switched
turns_switched zero i r a = refl
turns_switched (suc k) i r a = turns_switched k (suc i) r (turn_of r i a)

response_switched : (s : State) (t : ℕ) (r : Response) → refusal_of s (manager t (Respond r)) ≡ 0
    → switched r.count 0 r s.profiles ≡ (response_of s.desk s.profiles r).profiles
unfolding response_of response_refusal manager_rows
response_switched s t r e = rw (manager_free s t (Respond r) e) (sym (turns_switched r.count 0 r (unanswered 0 s.desk s.profiles)))

profiles_are : (s : State) (t : ℕ) (c : ManagerCall) → refusal_of s (manager t c) ≡ 0 → profiles_after s.profiles c ≡ (manager_by s c).profiles
unfolding manager_by profiles_after
profiles_are s t Register e = refl
profiles_are s t (Leave c) e = refl
profiles_are s t (Respond r) e = response_switched s t r e
profiles_are s t (Changed ps) e = refl
profiles_are s t (Waiting p) e = refl
profiles_are s t (Consumed p w) e = refl
profiles_are s t Tick e = refl

event_is : (s : State) (c : ManagerCall) → event_by c ≡ (manager_by s c).event
unfolding manager_by event_by
event_is s Register = refl
event_is s (Leave c) = refl
event_is s (Respond r) = refl
event_is s (Changed ps) = refl
event_is s (Waiting p) = refl
event_is s (Consumed p w) = refl
event_is s Tick = refl

pub managed_is : (s : State) (t : ℕ) (c : ManagerCall) → refusal_of s (manager t c) ≡ 0 → managed_by (read_off s) t c ≡ managing s t (manager_by s c)
managed_is s t c e = rw (profiles_are s t c e, event_is s c)

pub done_read : (s : State) (c : Call) → refusal_of s c ≡ 0 → read_call (read_off s) c ≡ read_off (after s c)
unfolding done_of read_call managed
done_read s (manager t c) e = rw (managed_is s t c e, profiles_are s t c e)
done_read s (cache t c) e = refl
done_read s (settings t st) e = refl
done_read s (take_control t) e = refl
done_read s (link t c) e = refl
done_read s (round t c) e = refl

pub run_read : (cs : List Call) (s : State) → read (read_off s) (happened s cs) ≡ read_off (run s cs)
unfolding read happened run
run_read [] s = refl
run_read (c ∷ cs) s =
    ap (λ (r : Reading). read r (happened (step s c).state cs)) (step_reads s c read_off (read_call (read_off s) c) (done_read s c)) ∙ run_read cs (step s c).state

pub start_read : (t : ℕ) (st : Settings) (ps : Profiles) → read_start t st ps (start_of t st ps).answer ≡ read_off (start_of t st ps).state
unfolding start_of started
start_read t st ps = cases _ (eqb (start_refusal t st ps) 0) (λ e. rw e) (λ e. rw e)

-- What is read after a list of calls is so of the box.
pub box_read : (t : ℕ) (st : Settings) (ps : Profiles) (cs : List Call) → read_after t st ps cs ≡ read_off (box_after t st ps cs)
box_read t st ps cs =
    let s = (start_of t st ps).state in
    ap (λ (r : Reading). read r (happened s cs)) (start_read t st ps) ∙ run_read cs s
