-- The claim, proved.
use Rattle.std.specs.Prelude.{Option, true, false, List, [], ◌∷◌, ◌≡◌, refl, ℕ, zero, suc, ◌^◌, ◌<◌, ◌≤◌, eqb}
use Rattle.std.proofs.Common.{ap, sym, ◌∙◌, arith, eqb-true}
use Rattle.agreement.specs.Claim.{Reading}
use Rattle.agreement.proofs.ReadOff.{box_read}
use Rattle.base.specs.Bytes.{Bytes}
use Rattle.base.specs.Choice.{cases}
use Rattle.base.specs.Refusal.{not_here}
use Rattle.cache.specs.Rules.{after_ask}
use Rattle.cache.specs.declared.Step.{Step}
use Rattle.cache.specs.declared.Step.TheVariants as asking
use Rattle.config.specs.declared.Profiles.{Profiles}
use Rattle.config.specs.declared.Settings.{Settings}
use Rattle.delivery.specs.Cases.{fit_count}
use Rattle.delivery.specs.Rules.{rpm, unfit, revs_after, response_refusal, response_of, turns_of, unanswered, pid_at, reply_at, value_at}
use Rattle.desk.specs.Rules.{revs_number, registered, fresh, no_revs, start_desk, put_client, entered, leave_of}
use Rattle.desk.specs.declared.Desk.{Desk}
use Rattle.pid.specs.Laws.{revs_length}
use Rattle.reply.specs.declared.Reply.{Reply}
use Rattle.reply.specs.declared.Response.{Response}
use Rattle.value.specs.Bound.{value_below}
use Rattle.value.specs.Rules.{width_of, value_of}
use Rattle.waits.specs.Rules.{collected_of}
use Rattle.obd2.specs.Accepted.{manager_free}
use Rattle.obd2.specs.Call.{Call, manager, cache, settings, take_control, link, round, Register, Leave, Respond, Changed, Waiting, Consumed, Tick, Ask, Collect, GiveUp, response, FitResponse, Fit}
use Rattle.obd2.specs.Done.{manager_by, cache_by, ask_step, done_of}
use Rattle.obd2.specs.History.{start_of, step, run, happened, accepted_by}
use Rattle.obd2.specs.Keeps.{after, step_done, step_reads, accepted_free, run_keeps}
use Rattle.obd2.specs.Refusals.{start_refusal, manager_rows, refusal_of}
use Rattle.obd2.specs.State.{managed, started}
use Rattle.obd2.specs.declared.State.{State}
use Rattle.value_uses.specs.Claim.{revs_in, read_call, read, Answers, most_revs, Claim}
use Rattle.value_uses.proofs.Response.{turns_revs, turns_value, turns_notice}

-- An accepted response is every PID's turn, in order.
response_turns : (s : State) (t : ℕ) (r : Response) → refusal_of s (response t r) ≡ 0
    → response_of s.desk s.profiles r ≡ turns_of r.count 0 r (unanswered 0 s.desk s.profiles)
unfolding response_of response_refusal manager_rows
response_turns s t r e = rw (manager_free s t (Respond r) e)

response_fit : (s : State) (t : ℕ) (r : Response) → refusal_of s (response t r) ≡ 0 → unfit r ≡ false
unfolding manager_rows response_refusal
response_fit s t r e = not_here 3 (unfit r) [] (λ q. omega arith) (manager_free s t (Respond r) e)

asked_revs : (d : Desk) (t c : ℕ) (k : Step) → d.revs ≡ (after_ask d t c k).revs
unfolding after_ask put_client
asked_revs d t c asking.Disconnected = refl
asked_revs d t c asking.Empty = refl
asked_revs d t c asking.Unclear = refl
asked_revs d t c (asking.Stored n) = refl
asked_revs d t c (asking.ToCache p) = cases _ (fresh d c p) (λ e. rw e) (λ e. rw e)

left_revs : (d : Desk) (c : ℕ) → d.revs ≡ (leave_of d c).revs
unfolding leave_of put_client
left_revs d c = cases _ (registered d c) (λ e. rw e) (λ e. rw e)

-- What is read is what the box has: one law a call.
done_read : (s : State) (c : Call) → refusal_of s c ≡ 0 → read_call s.desk.revs c ≡ (after s c).desk.revs
unfolding done_of manager_by cache_by read_call managed entered put_client collected_of
done_read s (manager t Register) e = refl
done_read s (manager t (Leave c)) e = left_revs s.desk c
done_read s (manager t (Respond r)) e = rw (response_turns s t r e) (sym (turns_revs r r.count 0 (unanswered 0 s.desk s.profiles)))
done_read s (manager t (Changed ps)) e = refl
done_read s (manager t (Waiting p)) e = refl
done_read s (manager t (Consumed p w)) e = refl
done_read s (manager t Tick) e = refl
done_read s (cache t (Ask c cmd area)) e = asked_revs s.desk t c (ask_step s cmd)
done_read s (cache t (Collect c area)) e = refl
done_read s (cache t (GiveUp c)) e = refl
done_read s (settings t st) e = refl
done_read s (take_control t) e = refl
done_read s (link t c) e = refl
done_read s (round t c) e = refl

abbrev revs_of : State → Option ℕ
revs_of s = s.desk.revs

run_read : (cs : List Call) (s : State) → read (revs_of s) (happened s cs) ≡ revs_of (run s cs)
unfolding read happened run
run_read [] s = refl
run_read (c ∷ cs) s =
    ap (λ (r : Option ℕ). read r (happened (step s c).state cs)) (step_reads s c revs_of (read_call (revs_of s) c) (done_read s c)) ∙ run_read cs (step s c).state

start_revs : (t : ℕ) (st : Settings) (ps : Profiles) → revs_of (start_of t st ps).state ≡ no_revs
unfolding start_of started start_desk
start_revs t st ps = cases _ (eqb (start_refusal t st ps) 0) (λ e. rw e) (λ e. rw e)

-- The revs are a fourth of two bytes: by the length of PID 0Ch.
two_bytes : (y : Reply) → Bytes y.bytes → value_of rpm y < 256 ^ 2
unfolding width_of
two_bytes y b = rw revs_length at (value_below rpm y b)

revs_below : (p : ℕ) (y : Reply) (old : Option ℕ) → Bytes y.bytes → revs_number old ≤ most_revs → revs_number (revs_after p (value_of p y) old) ≤ most_revs
unfolding revs_after
revs_below p y old b h = cases _ (eqb p rpm)
    (λ e. rw (e, eqb-true p rpm e) (omega (arith, two_bytes y b)))
    (λ e. rw e h)

revs_in_below : (r : Response) → FitResponse r → (k i : ℕ) (old : Option ℕ) → revs_number old ≤ most_revs → revs_number (revs_in k i r old) ≤ most_revs
unfolding revs_in
revs_in_below r f zero i old h = h
revs_in_below r f (suc k) i old h =
    revs_in_below r f k (suc i) (revs_after (pid_at r i) (value_at r i) old) (revs_below (pid_at r i) (reply_at r i) old (f.bytes i) h)

read_below : (old : Option ℕ) (c : Call) → Fit c → revs_number old ≤ most_revs → revs_number (read_call old c) ≤ most_revs
unfolding read_call
read_below old (manager t Register) f h = h
read_below old (manager t (Leave c)) f h = h
read_below old (manager t (Respond r)) f h = revs_in_below r f r.count 0 old h
read_below old (manager t (Changed ps)) f h = h
read_below old (manager t (Waiting p)) f h = h
read_below old (manager t (Consumed p w)) f h = h
read_below old (manager t Tick) f h = h
read_below old (cache t c) f h = h
read_below old (settings t st) f h = h
read_below old (take_control t) f h = h
read_below old (link t c) f h = h
read_below old (round t c) f h = h

abbrev Bounded : State → Type 0
Bounded s = revs_number (revs_of s) ≤ most_revs

answering : (s : State) (t : ℕ) (r : Response) → accepted_by (step s (response t r)).answer ≡ true → (i : ℕ) → i < r.count → Answers s t r i
unfolding done_of manager_by manager_rows
answering s t r a i h =
    let e = accepted_free s (response t r) a in
    let start = unanswered 0 s.desk s.profiles in
    let few = fit_count r (response_fit s t r e) in
    record {
      value = rw (step_done s (response t r) e, response_turns s t r e) (turns_value r start r.count i h (omega arith));
      notice = rw (step_done s (response t r) e, response_turns s t r e) (turns_notice r start r.count i h (omega arith));
    }

pub claim : Claim
claim = record {
  answers = answering;
  revs = λ t st ps cs. sym (run_read cs (start_of t st ps).state) ∙ ap (λ (r : Option ℕ). read r (happened (start_of t st ps).state cs)) (start_revs t st ps);
  profiles = λ t st ps cs. ap (λ (r : Reading). r.profiles) (sym (box_read t st ps cs));
  manager = λ t st ps cs. ap (λ (r : Reading). r.manager) (sym (box_read t st ps cs));
  bound = λ t st ps cs f. run_keeps Bounded (λ s c x h e. rw (← done_read s c e) (read_below (revs_of s) c x h)) cs (start_of t st ps).state f (rw (start_revs t st ps) (omega arith));
}
