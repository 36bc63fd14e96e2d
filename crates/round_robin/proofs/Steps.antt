-- Every call of the box is a step of the single rounds, or leaves the poller.
use Rattle.std.specs.Prelude.{None, Option, Some, Bool, ◌||◌, List, [], ◌∷◌, map, ◌≡◌, ℕ, leb, eqb}
use Rattle.std.proofs.Math.Bool.{true, false}
use Rattle.std.proofs.Math.Path.{refl}
use Rattle.std.proofs.Common.{ap, sym, ◌∙◌, arith}
use borrow.Author.Tests.{eqb-true, eqb-false, ne_eqb, le-leb}
use Rattle.base.specs.Choice.{cases, false_true}
use Rattle.config.specs.declared.Settings.{Settings}
use Rattle.control.specs.declared.DongleMessage.{DongleMessage}
use Rattle.control_line.specs.Ring.{take_of}
use Rattle.link.specs.Cases.{connect_already, fail_already, reconnect_connected}
use Rattle.link.specs.Rules.{is_no}
use Rattle.pid_list.specs.Members.{Sound}
use Rattle.pid_list.specs.Robin.{next_none, next_some, next_sound}
use Rattle.pid_list.specs.Rules.{size_of, found, next_of as nextPid}
use Rattle.pid_list.specs.declared.PidList.{PidList}
use Rattle.plan.specs.Steps.{padded}
use Rattle.poll_laws.proofs.Rounds.{result_settled}
use Rattle.poller.specs.Calls.{multi_allowed, none_in, connect_of, fail_of, reconnect_of}
use Rattle.poller.specs.Cases.{begin_single}
use Rattle.rounds.specs.Cases.{first_some, first_none, slow_not, slow_sent, slow_unsent}
use Rattle.rounds.specs.Next.{issue_of, end_of, slow_due, slow_passes, slow_of, first_of, step_in, next_of}
use Rattle.rounds.specs.Result.{phase_after, round_after, result_of}
use Rattle.poller.specs.State.{open_of, due_of, pids_of}
use Rattle.poller.specs.declared.Phase.{Phase}
use Rattle.poller.specs.declared.Phase.TheVariants.{Closed, First, FastDue, Test, SlowDue, Over}
use Rattle.poller.specs.declared.Poller.{Poller}
use Rattle.rounds.specs.declared.Stepped.{Stepped}
use Rattle.obd2.specs.Accepted.{begin_closed, next_open}
use Rattle.obd2.specs.Call.{Call, manager, cache, settings, take_control, link, round, Connect, Fail, Check, Begin, Next, Result}
use Rattle.obd2.specs.Done.{listing, link_by, round_by, done_of}
use Rattle.obd2.specs.History.{event_of, step, happened}
use Rattle.obd2.specs.Refusals.{refusal_of}
use Rattle.obd2.specs.State.{managed}
use Rattle.obd2.specs.declared.State.{State}
use Rattle.obd2.specs.Answer.{Accepted}
use Rattle.obd2.specs.declared.Said.TheVariants as said
use Rattle.round_robin.specs.Claim.{is_begin, Seen, seen_at, Quiet, Steady, more}
use Rattle.round_robin.specs.Marks.{Mark, aside, next_mark, mark_done, mark, rounds_in}
use Rattle.round_robin.proofs.Machine.{Stage, idle, first, test, over, wanted, Finds, passed, unsent, failed, Tests, After, tested, silent, Ahead, stop, rest}
use Rattle.round_robin.proofs.Reading.{shut, seen_is}

-- A single round's phases.
pub data Within : Phase → Stage → Type 0 where
  at_closed : Within Closed idle
  at_first : Within First first
  at_fast : Within FastDue test
  at_test : Within Test test
  at_slow : Within SlowDue over
  at_over : Within Over over

-- A result goes on within its stage.
after_within : {ph : Phase} {g : Stage} → Within ph g → (b : Bool) → Within (phase_after ph b) g
after_within at_closed b = at_closed
after_within at_first b = at_first
after_within at_fast b = at_test
after_within at_test b = at_test
after_within at_slow b = at_over
after_within at_over b = at_over

closed_idle : {g : Stage} → Within Closed g → g ≡ idle
closed_idle at_closed = refl

-- A list as the calls leave it, empty or not.
pub record Standing (none : Bool) (l : PidList) : Type 0 where
  pub sound : Sound l
  pub empty : none_in l ≡ none

next_none_in : (l : PidList) → none_in (nextPid l).list ≡ none_in l
unfolding nextPid
next_none_in l = cases _ (eqb (size_of l.len) 0) (λ e. rw e) (λ e. rw e)

next_standing : (b : Bool) (l : PidList) → Standing b l → Standing b (nextPid l).list
next_standing b l v = record { sound = next_sound l v.sound; empty = next_none_in l ∙ v.empty }

-- The slow test in Ratio mode, by the fast requests that it wants.
wants : (st : Settings) (nofast : Bool) (r : ℕ) → (nofast || leb st.ratio r) ≡ leb (wanted st nofast) r
wants st true r = sym (le-leb 0 r (omega arith))
wants st false r = refl

module _ (st : Settings) (nofast : Bool) where
  -- An open round keeps its begin's settings and whether the fast list was empty.
  abbrev Own : Poller → Type 0
  Own p = (p.settings ≡ st) × (p.round.nofast ≡ nofast)

  -- A poller in a single round, or in none.
  pub record Fine (g : Stage) (p : Poller) : Type 0 where
    pub within : Within p.round.phase g
    pub own : open_of p.round.phase ≡ true → Own p
    pub standing : Standing nofast p.fast

  -- What follows from a poller.
  abbrev From : Poller → List Mark → Type 0
  From p ms = (g : Stage) → Fine g p → Ahead st nofast g p.fast p.slow p.requests ms

  module _ (ms : List Mark) where
    -- What a `next` marks.
    abbrev Marks : Stage → Poller → Stepped → Type 0
    Marks g p x = From x.poller ms → Ahead st nofast g p.fast p.slow p.requests (next_mark (said.Step x.step) x.poller.round.due ∷ ms)

    module _ (p : Poller) (t : ℕ) (own : Own p) (v : Standing nofast p.fast) (up : p.link.connected ≡ true) where
      finds : (b : Bool) → slow_passes p t ≡ b → Finds st nofast p.requests b
      unfolding slow_due
      finds b e m = rw (own.0, own.1, ne_eqb st.mode 0 m, wants st nofast p.requests) at e

      slow_marks : Marks test p (slow_of p t)
      unfolding issue_of end_of pids_of padded rounds_in
      slow_marks =
          cases _ (slow_passes p t)
          (λ e. cases _ (found (nextPid p.slow))
          (λ f. rw (slow_sent p t e (rw (f, up))) (λ k x. tested st nofast (passed (finds true e) f) (k over (record { within = at_slow; own = λ _. own; standing = v }) _)))
          (λ f. rw (slow_unsent p t e (rw f)) (λ k x. silent st nofast (unsent (finds true e) f) (k idle (record { within = at_closed; own = λ z. false_true z; standing = v })))))
          (λ e. rw (slow_not p t e) (λ k x. silent st nofast (failed (finds false e)) (k idle (record { within = at_closed; own = λ z. false_true z; standing = v }))))

-- A round's first step: the fast query, or the slow test where there is none.
first_marks : (st : Settings) (nofast : Bool) (ms : List Mark) (p : Poller) (t : ℕ) → Own st nofast p → Standing nofast p.fast → p.link.connected ≡ true → Marks st nofast ms first p (first_of p t)
unfolding issue_of pids_of padded rounds_in
first_marks st true ms p t own v up =
    let n = next_none p.fast (eqb-true p.fast.len 0 v.empty) in
    rw (first_none p t (rw n), n) (λ k. slow_marks st true ms p t own v up k [])
first_marks st false ms p t own v up =
    let z = eqb-false p.fast.len 0 v.empty in
    let n = next_some p.fast v.sound (omega arith) in
    rw (first_some p t (rw n)) (λ k. k test (record { within = at_fast; own = λ _. own; standing = next_standing false p.fast v }) _)

module _ (st : Settings) (nofast : Bool) (ms : List Mark) (p : Poller) (t : ℕ) (own : Own st nofast p) (v : Standing nofast p.fast) (up : p.link.connected ≡ true) where
  step_marks : {ph : Phase} {g : Stage} → Within ph g → open_of ph ≡ true → due_of ph ≡ false → Marks st nofast ms g p (step_in ph p t)
  unfolding end_of rounds_in
  step_marks at_closed o d = false_true o
  step_marks at_first o d = first_marks st nofast ms p t own v up
  step_marks at_fast o d = false_true (sym d)
  step_marks at_test o d = slow_marks st nofast ms p t own v up
  step_marks at_slow o d = false_true (sym d)
  step_marks at_over o d = λ k xs. After.more (k idle (record { within = at_closed; own = λ z. false_true z; standing = v }))

-- Taking nothing leaves the poller.
taken_still : (p : Poller) (x : Option DongleMessage) → ((m : DongleMessage) → Accepted (said.Taken x) ≡ Accepted (said.Taken (Some m)) → ⊥) → listing p x ≡ p
taken_still p None n = refl
taken_still p (Some m) n = absurd (n m refl)

-- ---- every call, and every list of calls

module _ (s : State) (st : Settings) (nofast : Bool) (same : s.settings ≡ st) (ms : List Mark) (g : Stage) (up : s.poller.link.connected ≡ true) (fine : Fine st nofast g s.poller) where
  abbrev Goes : Poller → Mark → Type 0
  Goes r m = From st nofast r ms → Ahead st nofast g s.poller.fast s.poller.slow s.poller.requests (m ∷ ms)

  -- A call that leaves the poller, as the connection's do while it is up.
  leaves : (r : Poller) → r ≡ s.poller → Goes r aside
  leaves r e k = rest st nofast s.poller.fast s.poller.slow s.poller.requests g ms ((rw e at k) g fine)

  abbrev Single : Type 0
  Single = multi_allowed s.settings.multi (is_no s.poller.link.features.multi) ≡ false

  done_runs : (c : Call) → refusal_of s c ≡ 0 → let a = done_of s c in
      (is_begin c ≡ true → Single)
      → ((m : DongleMessage) → Accepted a.said ≡ Accepted (said.Taken (Some m)) → ⊥) → Goes a.state.poller (mark_done c a.said a.details.query)
  unfolding done_of link_by round_by managed connect_of fail_of reconnect_of result_of round_after next_of rounds_in
  done_runs (manager t c) e o n k = leaves _ refl k
  done_runs (cache t c) e o n k = leaves _ refl k
  done_runs (settings t x) e o n k = leaves _ refl k
  done_runs (take_control t) e o n k = leaves _ (taken_still s.poller (take_of s.line).taken n) k
  done_runs (link t (Connect x)) e o n k = leaves _ (rw (connect_already s.poller.link x up)) k
  done_runs (link t Fail) e o n k = leaves _ (rw (fail_already s.poller.link up)) k
  done_runs (link t Check) e o n k = leaves _ (rw (reconnect_connected s.poller.link t up)) k
  done_runs (round t Begin) e o n k =
      let w = closed_idle (rw (shut s.poller.round.phase (begin_closed s t e)) at fine.within) in
      rw w ((rw (begin_single s.poller s.settings up (o refl)) at k) first (record { within = at_first; own = λ _. (same, fine.standing.empty); standing = fine.standing }))
  done_runs (round t Next) e o n k = let x = next_open s t e in step_marks st nofast ms s.poller t (fine.own x.0) fine.standing up fine.within x.0 x.1 k
  done_runs (round t (Result x)) e o n k =
      rest st nofast s.poller.fast s.poller.slow s.poller.requests g ms (k g (record { within = after_within fine.within _; own = λ z. fine.own (sym (result_settled s.poller t x).stands ∙ z); standing = fine.standing }))

  step_runs : (c : Call) → Quiet (seen_at s) (event_of s c) → Goes (step s c).state.poller (mark (event_of s c))
  unfolding step
  step_runs c q = cases _ (eqb (refusal_of s c) 0)
      (λ e. rw e (done_runs c (eqb-true _ 0 e) (rw e at q.single) (rw e at q.none_taken)))
      (λ e. rw e (leaves _ refl))

pub box_runs : (cs : List Call) (s : State) (st : Settings) (nofast : Bool) → s.settings ≡ st → s.poller.link.connected ≡ true → (g : Stage) → Fine st nofast g s.poller
    → Steady (seen_at s) (happened s cs) → Ahead st nofast g s.poller.fast s.poller.slow s.poller.requests (map mark (happened s cs))
unfolding happened
box_runs [] s st nofast same up g fine h = stop st nofast s.poller.fast s.poller.slow s.poller.requests g
box_runs (c ∷ cs) s st nofast same up g fine (more q h) =
    let s' = (step s c).state in
    let i = seen_is s c in
    step_runs s st nofast same (map mark (happened s' cs)) g up fine c q
    (λ g' f. box_runs cs s' st nofast (ap (λ (x : Seen). x.settings) (sym i) ∙ q.unchanged ∙ same) (ap (λ (x : Seen). x.up) (sym i) ∙ q.stays_up) g' f (rw i at h))
