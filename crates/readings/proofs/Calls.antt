-- What every call makes of the desk and of the connection: a deed by its answer.
use Rattle.std.specs.Prelude.{None, Option, Some, Bool, true, ◌≡◌, ℕ, ◌≤◌, eqb, length}
use Rattle.std.proofs.Math.Path.{refl}
use Rattle.std.proofs.Common.{ap, arith, eqb-true}
use Rattle.base.specs.Choice.{cases}
use Rattle.cache.specs.Rules.{ask_refusal}
use Rattle.config.specs.declared.Settings.{Settings}
use Rattle.control.specs.declared.DongleMessage.{DongleMessage}
use Rattle.control_line.specs.Ring.{take_of}
use Rattle.delivery.specs.Rules.{response_refusal}
use Rattle.desk.specs.Sound.{Sound}
use Rattle.desk.specs.Rules.{register_refusal}
use Rattle.link.specs.Cases.{connect_already, connect_made, fail_already, fail_made, reconnect_connection}
use Rattle.link.specs.Rules.{is_no}
use Rattle.link.specs.declared.Link.{Link}
use Rattle.link.specs.declared.Session.{Session}
use Rattle.poll_laws.specs.Counts.{result_connection}
use Rattle.poll_laws.specs.Keeps.{next_kept}
use Rattle.poller.specs.Calls.{multi_allowed, connect_of, fail_of, reconnect_of, begin_of}
use Rattle.poller.specs.Cases.{begin_over, begin_multi, begin_single}
use Rattle.poller.specs.declared.Poller.{Poller}
use Rattle.waits.specs.Rules.{collect_refusal, give_up_refusal}
use Rattle.obd2.specs.Accepted.{accepted_time, accepted_rows, manager_free}
use Rattle.obd2.specs.Call.{Call, manager, cache, settings, take_control, link, round, Register, Leave, Respond, Changed, Waiting, Consumed, Tick, Ask, Collect, GiveUp, Connect, Fail, Check, Begin, Next, Result, Fit, time_of}
use Rattle.obd2.specs.Done.{ranges, ask_step, manager_by, cache_by, link_by, round_by, done_of, listing}
use Rattle.obd2.specs.History.{step, event_of}
use Rattle.obd2.specs.Keeps.{step_keeps}
use Rattle.obd2.specs.Refusals.{manager_rows, cache_rows, rows_of, row_refusal, refusal_of}
use Rattle.obd2.specs.State.{managed}
use Rattle.obd2.specs.declared.State.{State}
use Rattle.readings.specs.Claim.{same, deed, deed_of}
use Rattle.readings.specs.Desk.{kept, registers, leaves, asks, collects, gives_up, brings}
use Rattle.readings.specs.Seen.{Makes}

-- The connection after a message is taken, after either outcome of a connect, and after a begin.
taken_link : (p : Poller) (x : Option DongleMessage) → (listing p x).link.connected ≡ p.link.connected
taken_link p None = refl
taken_link p (Some m) = refl

connect_link : (p : Poller) (x : Session) → (connect_of p x).poller.link.connected ≡ true
unfolding connect_of
connect_link p x = cases _ p.link.connected (λ e. rw (connect_already p.link x e) e) (λ e. rw (connect_made p.link x e))

fail_link : (p : Poller) → (fail_of p).poller.link.connected ≡ p.link.connected
unfolding fail_of
fail_link p = cases _ p.link.connected (λ e. rw (fail_already p.link e)) (λ e. rw (fail_made p.link e, e))

check_link : (p : Poller) (t : ℕ) → (reconnect_of p t).poller.link.connected ≡ p.link.connected
unfolding reconnect_of
check_link p t = reconnect_connection p.link t

begin_link : (p : Poller) (st : Settings) → (begin_of p st).link.connected ≡ p.link.connected
begin_link p st = cases _ p.link.connected
    (λ e. cases _ (multi_allowed st.multi (is_no p.link.features.multi)) (λ f. rw (begin_multi p st e f)) (λ f. rw (begin_single p st e f)))
    (λ e. rw (begin_over p st e))

abbrev pub on : State → Bool
on s = s.poller.link.connected

module _ (s : State) (k : Sound s.desk) where
  abbrev Does : Call → Type 0
  Does c = let d = done_of s c in Makes s.desk (on s) (deed_of c d.said) (time_of c) d.state.desk (on d.state)

  does : (c : Call) → Fit c → refusal_of s c ≡ 0 → Does c
  unfolding done_of managed manager_by manager_rows cache_by cache_rows link_by round_by row_refusal rows_of register_refusal response_refusal ask_refusal collect_refusal give_up_refusal
  does (manager t Register) f e = registers k t (manager_free s t Register e)
  does (manager t (Leave c)) f e = leaves k t c
  does (manager t (Respond r)) f e = brings k t s.profiles r f (manager_free s t (Respond r) e)
  does (manager t (Changed ps)) f e = kept k t _ _ refl
  does (manager t (Waiting p)) f e = kept k t _ _ refl
  does (manager t (Consumed p w)) f e = kept k t _ _ refl
  does (manager t Tick) f e = kept k t _ _ refl
  does (cache t (Ask c cmd area)) f e = asks k t c (ranges s) (ask_step s cmd) (length area) (accepted_rows s (cache t (Ask c cmd area)) e)
  does (cache t (Collect c area)) f e = collects k t c (length area) (accepted_rows s (cache t (Collect c area)) e)
  does (cache t (GiveUp c)) f e = gives_up k t c (accepted_rows s (cache t (GiveUp c)) e)
  does (settings t st) f e = kept k t _ _ refl
  does (take_control t) f e = kept k t _ _ (taken_link s.poller (take_of s.line).taken)
  does (link t (Connect x)) f e = kept k t _ _ (connect_link s.poller x)
  does (link t Fail) f e = kept k t _ _ (fail_link s.poller)
  does (link t Check) f e = kept k t _ _ (check_link s.poller t)
  does (round t Begin) f e = kept k t _ _ (begin_link s.poller s.settings)
  does (round t Next) f e = kept k t _ _ (ap (λ (l : Link). l.connected) (next_kept s.poller t).link)
  does (round t (Result o)) f e = kept k t _ _ (result_connection s.poller t o)

  module _ (c : Call) where
    -- A refused call is no deed.
    pub makes : Fit c → Makes s.desk (on s) (deed (event_of s c)) (step s c).state.time (step s c).state.desk (on (step s c).state)
    unfolding step
    makes f = cases _ (eqb (refusal_of s c) 0) (λ e. rw e (does c f (eqb-true _ 0 e))) (λ e. rw e (kept k s.time same (on s) refl))

    pub no_earlier : s.time ≤ (step s c).state.time
    no_earlier = step_keeps s c (λ x. s.time ≤ x.time) (omega arith) (λ e. (accepted_time s c e).0)
