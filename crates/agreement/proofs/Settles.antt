-- A box settles: whatever the results, a bounded number of `next` and `result` calls closes an open round, and the waiting
-- messages are taken one call each.
use Rattle.std.specs.Prelude.{true, false, ◌≡◌, ℕ, zero, suc, ◌+◌, ◌*◌, ◌<◌, ◌≤◌, length, replicate}
use mathlib.Core.List.{List, [], ◌∷◌}
use Rattle.std.proofs.Math.Path.{refl}
use Rattle.std.proofs.Common.{arith}
use Rattle.base.specs.Choice.{pick, one, cases}
use Rattle.base.specs.Refusal.{first_of}
use Rattle.control.specs.declared.DongleMessage.{DongleMessage}
use Rattle.control_line.specs.Laws.{take_first}
use Rattle.control_line.specs.Ring.{waiting}
use Rattle.poll_laws.specs.Rounds.{queries_left, Stride, ended, issued}
use Rattle.poll_laws.proofs.Rounds.{next_stride, result_settled}
use Rattle.poller.specs.State.{open_of, due_of}
use Rattle.poller.specs.declared.Poller.{Poller}
use Rattle.rounds.specs.Next.{next_of}
use Rattle.rounds.specs.declared.Outcome.{Outcome}
use Rattle.rounds.specs.declared.Stepped.{Stepped}
use Rattle.obd2.specs.Accepted.{accepted_time}
use Rattle.obd2.specs.Call as calls
use Rattle.obd2.specs.Call.{Call, take_control, next, result, Calls, more}
use Rattle.obd2.specs.Done.{round_by, done_of}
use Rattle.obd2.specs.History.{step, run}
use Rattle.obd2.specs.Keeps.{after, step_done, step_keeps}
use Rattle.obd2.specs.Refusals.{latest, round_open, result_due, round_rows, rows_of, refusal_of}
use Rattle.obd2.specs.declared.State.{State}
use Rattle.agreement.specs.Claim.{OfRound, none, asks, tells, taking, due, ending, most_calls}
use Rattle.agreement.proofs.Good.{Good, own_time}

-- How many calls an open round may still take, at most: two for each query left, one to end, and one for a result that is due.
abbrev pub calls_left : Poller → ℕ
calls_left p = pick (open_of p.round.phase) (2 * queries_left p + 1 + one (due_of p.round.phase)) 0

stride_less : (p : Poller) (r : Stepped) (n : ℕ) → Stride p n r → calls_left r.poller < 2 * n + 1
stride_less p r n (ended e f) = rw f (omega arith)
stride_less p r n (issued e f i g) = cases _ (open_of r.poller.round.phase) (λ a. rw (a, f) (omega arith)) (λ a. rw a (omega arith))

module _ (s : State) (h : s.time ≤ latest) (o : Outcome) (a : round_open s ≡ true) where
  next_less : result_due s ≡ false → calls_left (step s (next s.time)).state.poller < calls_left s.poller
  unfolding refusal_of rows_of round_rows first_of done_of round_by
  next_less b =
      let m = stride_less s.poller (next_of s.poller s.time) (queries_left s.poller) (next_stride s.poller s.time) in
      rw (step_done s (next s.time) (rw (own_time s.time h, a, b)), a, b) (omega arith)

  result_less : result_due s ≡ true → calls_left (step s (result s.time o)).state.poller < calls_left s.poller
  unfolding refusal_of rows_of round_rows first_of done_of round_by
  result_less b =
      let r = result_settled s.poller s.time o in
      let f = r.fewer in
      rw (step_done s (result s.time o) (rw (own_time s.time h, b)), r.stands, r.taken, a, b) (omega arith)

  due_less : calls_left (step s (due o s)).state.poller < calls_left s.poller
  due_less = cases _ (result_due s) (λ b. rw b (rw b at (result_less b))) (λ b. rw b (rw b at (next_less b)))

due_round : (o : Outcome) (s : State) {ds : List Call} → OfRound ds → OfRound (due o s ∷ ds)
due_round o s h = cases _ (result_due s) (λ b. rw b (tells h)) (λ b. rw b (asks h))

-- As many outcomes as calls are left are enough, and the calls are a round's own.
pub ends : (os : List Outcome) (s : State) → s.time ≤ latest → calls_left s.poller ≤ length os
    → OfRound (ending os s) × (length (ending os s) ≤ length os) × (round_open (run s (ending os s)) ≡ false)
unfolding ending run
ends [] s h k = (none, omega arith, cases _ (round_open s) (λ a. absurd (let b = rw a at k in omega arith)) (λ a. a))
ends (o ∷ os) s h k =
    cases _ (round_open s)
    (λ a. let m = due_less s h o a in
    let r = ends os (step s (due o s)).state (step_keeps s (due o s) (λ x. x.time ≤ latest) h (λ e. (accepted_time s (due o s) e).1)) (omega arith) in
    let n = r.1 in
    rw a (due_round o s r.0, omega arith, r.2))
    (λ a. rw a (none, omega arith, a))

-- A good box has few left.
pub few_left : (s : State) → Good s → calls_left s.poller ≤ most_calls
few_left s g =
    let h = g.kept.1 in
    cases _ (round_open s)
    (λ a. rw a (cases _ (result_due s) (λ b. let k = rw b at h in rw b (omega arith)) (λ b. let k = rw b at h in rw b (omega arith))))
    (λ a. rw a (omega arith))

-- ---- the waiting messages

pub takes_fit : (s : State) → Calls (taking s)
takes_fit s = go (length (waiting s.line))
  where
    go : (n : ℕ) → Calls (replicate n (take_control s.time))
    go zero = calls.none
    go (suc n) = more tt (go n)

module _ (t : ℕ) (h : t ≤ latest) where
  -- Between rounds, at the box's own time.
  take_accepted : (s : State) → s.time ≡ t → round_open s ≡ false → refusal_of s (take_control t) ≡ 0
  unfolding refusal_of rows_of first_of
  take_accepted s i c = rw (i, own_time t h, c)

  -- None is left, and manager and round are as they were.
  pub take_all : (ms : List DongleMessage) (s : State) → s.time ≡ t → round_open s ≡ false → waiting s.line ≡ ms
      → let s' = run s (replicate (length ms) (take_control t)) in (waiting s'.line ≡ []) × (s'.manager ≡ s.manager) × (round_open s' ≡ false)
  unfolding run done_of
  take_all [] s i c e = (e, refl, c)
  take_all (m ∷ ms) s i c e =
      let k = take_first s.line m ms e in
      rw (run, step_done s (take_control t) (take_accepted s i c)) (take_all ms (after s (take_control t)) refl (rw k.0 c) k.1)
