-- What is read of the connection, the multi-PID state, the settings and the open round is what is so of the box.
use Rattle.std.specs.Prelude.{None, Option, Some, Bool, true, false, List, [], ◌∷◌, map, ◌≡◌, refl, ℕ, eqb}
use Rattle.std.proofs.Common.{ap, ◌∙◌, eqb-true}
use Rattle.std.proofs.Math.Path.{sym}
use Rattle.base.specs.Choice.{pick, cases, false_true}
use Rattle.config.specs.Defaults.{default_settings}
use Rattle.config.specs.declared.Profiles.{Profiles}
use Rattle.config.specs.declared.Settings.{Settings}
use Rattle.control.specs.declared.DongleMessage.{DongleMessage}
use Rattle.control_line.specs.Ring.{take_of}
use Rattle.link.specs.declared.FeatureSupport.TheVariants.{Unknown}
use Rattle.link.specs.Rules.{start_link, is_no, loss_of, rested_of, connect_of as linkUp, fail_of as linkDown, reconnect_of as linkCheck}
use Rattle.poller.specs.Calls.{multi_allowed, connect_of, fail_of, reconnect_of, begin_of}
use Rattle.rounds.specs.Next.{next_of}
use Rattle.rounds.specs.Result.{is_lost, link_after, result_of}
use Rattle.poller.specs.State.{open_of, start_of as startPoller}
use Rattle.poller.specs.declared.Poller.{Poller}
use Rattle.poller.specs.declared.Phase.{Phase}
use Rattle.poller.specs.declared.Phase.TheVariants.{Closed, First, FastDue, Test, SlowDue, Multi, MultiDue, Over}
use Rattle.rounds.specs.declared.Stepped.{Stepped}
use Rattle.poll_laws.specs.Keeps.{next_kept}
use Rattle.poll_laws.specs.Rounds.{Stride, ended, issued}
use Rattle.poll_laws.proofs.Rounds.{next_stride, result_settled}
use Rattle.obd2.specs.Accepted.{next_open}
use Rattle.obd2.specs.Call.{Call, manager, cache, settings, take_control, link, round, Connect, Fail, Check, Begin, Next, Result}
use Rattle.obd2.specs.Done.{listing, link_by, round_by, done_of}
use Rattle.obd2.specs.History.{start_of, accepted_by, event_of, step, run, happened}
use Rattle.obd2.specs.Keeps.{after, step_reads}
use Rattle.obd2.specs.Refusals.{start_refusal, round_open, refusal_of}
use Rattle.obd2.specs.State.{started, managed}
use Rattle.obd2.specs.declared.State.{State}
use Rattle.obd2.specs.declared.Said.TheVariants.{Step}
use Rattle.round_robin.specs.Claim.{Seen, read_by, seen, seen_at, seen_over}
use Rattle.round_robin.specs.Marks.{next_mark, mark_done, mark, open_by, open_over}

pub shut : (ph : Phase) → open_of ph ≡ false → ph ≡ Closed
shut Closed e = refl
shut First e = false_true (sym e)
shut FastDue e = false_true (sym e)
shut Test e = false_true (sym e)
shut SlowDue e = false_true (sym e)
shut Multi e = false_true (sym e)
shut MultiDue e = false_true (sym e)
shut Over e = false_true (sym e)

-- A control message goes into the lists alone.
listing_aside : (p : Poller) (x : Option DongleMessage) → ((listing p x).link ≡ p.link) × ((listing p x).round ≡ p.round)
listing_aside p None = (refl, refl)
listing_aside p (Some m) = (refl, refl)

begin_open : (p : Poller) (st : Settings) → ((begin_of p st).link ≡ p.link) × (open_of (begin_of p st).round.phase ≡ true)
unfolding begin_of
begin_open p st = cases _ p.link.connected
    (λ e. rw e (cases _ (multi_allowed st.multi (is_no p.link.features.multi)) (λ f. rw f (refl, refl)) (λ f. rw f (refl, refl))))
    (λ e. rw e (refl, refl))

-- A `next` of an open round.
stride_open : (p : Poller) (n : ℕ) (x : Stepped) (b : Bool) → b ≡ true → Stride p n x → open_by (next_mark (Step x.step) x.poller.round.due) b ≡ open_of x.poller.round.phase
stride_open p n x b o (ended e f) = rw (e, f)
stride_open p n x b o (issued e f i g) =
    rw (e, o) (cases _ (open_of x.poller.round.phase) (λ a. sym a) (λ a. false_true (rw (shut x.poller.round.phase a) at f)))

-- An accepted call, and with it every call: what is read is what is so of the box after it.
module _ (s : State) where
  done_is : (c : Call) → refusal_of s c ≡ 0 → (read_by (seen_at s) c ≡ seen_at (after s c))
      × (open_by (mark_done c (done_of s c).said (done_of s c).details.query) (round_open s) ≡ round_open (after s c))
  unfolding done_of link_by round_by managed connect_of fail_of reconnect_of result_of linkUp linkDown linkCheck link_after loss_of
  done_is (manager t c) e = (refl, refl)
  done_is (cache t c) e = (refl, refl)
  done_is (settings t st) e = (refl, refl)
  done_is (take_control t) e = let l = listing_aside s.poller (take_of s.line).taken in (rw l.0, rw l.1)
  done_is (link t (Connect x)) e = (cases _ s.poller.link.connected (λ f. rw f) (λ f. rw f), refl)
  done_is (link t Fail) e = (cases _ s.poller.link.connected (λ f. rw f) (λ f. rw f), refl)
  done_is (link t Check) e =
      (cases _ s.poller.link.connected (λ f. rw f) (λ f. rw f (cases _ (rested_of s.poller.link.attempt t) (λ g. rw g) (λ g. rw g))), refl)
  done_is (round t Begin) e = let b = begin_open s.poller s.settings in (rw b.0, sym b.1)
  done_is (round t Next) e =
      (rw (next_kept s.poller t).link, stride_open s.poller _ (next_of s.poller t) _ (next_open s t e).0 (next_stride s.poller t))
  done_is (round t (Result o)) e = (cases _ (is_lost o.kind) (λ f. rw f) (λ f. rw f), sym (result_settled s.poller t o).stands)

  pub seen_is : (c : Call) → seen (seen_at s) (event_of s c) ≡ seen_at (step s c).state
  seen_is c = step_reads s c seen_at (read_by (seen_at s) c) (λ e. (done_is c e).0)

  open_is : (c : Call) → open_by (mark (event_of s c)) (round_open s) ≡ round_open (step s c).state
  unfolding step
  open_is c = cases _ (eqb (refusal_of s c) 0) (λ e. rw e (done_is c (eqb-true _ 0 e)).1) (λ e. rw e)

-- .. and so over a history.
pub seen_run : (cs : List Call) (s : State) → seen_over (seen_at s) (happened s cs) ≡ seen_at (run s cs)
unfolding happened run seen_over
seen_run [] s = refl
seen_run (c ∷ cs) s = ap (λ (k : Seen). seen_over k (happened (step s c).state cs)) (seen_is s c) ∙ seen_run cs (step s c).state

pub open_run : (cs : List Call) (s : State) → open_over (round_open s) (map mark (happened s cs)) ≡ round_open (run s cs)
unfolding happened run open_over
open_run [] s = refl
open_run (c ∷ cs) s = ap (λ (b : Bool). open_over b (map mark (happened (step s c).state cs))) (open_is s c) ∙ open_run cs (step s c).state

-- What is so of the box that a start returns.
module _ (t : ℕ) (st : Settings) (ps : Profiles) where
  pub start_seen : seen_at (start_of t st ps).state ≡ record { up = false; multi = Unknown; settings = pick (accepted_by (start_of t st ps).answer) st default_settings }
  unfolding start_of started startPoller start_link
  start_seen = cases _ (eqb (start_refusal t st ps) 0) (λ e. rw e) (λ e. rw e)

  pub start_open : round_open (start_of t st ps).state ≡ false
  unfolding start_of started startPoller
  start_open = cases _ (eqb (start_refusal t st ps) 0) (λ e. rw e) (λ e. rw e)
