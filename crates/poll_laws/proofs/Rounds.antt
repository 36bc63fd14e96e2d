-- The laws of `Rounds`: a round ends.
use Rattle.std.specs.Prelude.{Bool, true, false, ◌&&◌, List, [], ◌∷◌, ◌++◌, ◌≡◌, refl, ℕ, ◌+◌, ◌<◌, ◌≤◌, eqb, length}
use Rattle.std.proofs.Common.{ap, arith, length-append}
use Rattle.base.specs.Choice.{cases}
use Rattle.config.specs.declared.Settings.{Settings}
use Rattle.link.specs.Rules.{is_no}
use Rattle.pid_list.specs.Rules.{entries, found, next_of as nextPid}
use Rattle.plan.specs.Left.{keys_of, take_left, plan_left}
use Rattle.plan.specs.Steps.{left_of, take_of, plan_of}
use Rattle.plan.specs.Whole.{round_length}
use Rattle.poller.specs.Calls.{multi_allowed, begin_of}
use Rattle.poller.specs.Cases.{begin_over, begin_multi, begin_single}
use Rattle.rounds.specs.Cases.{slow_not, slow_sent, slow_unsent, first_some, first_none, multi_end, multi_some, result_due_law}
use Rattle.rounds.specs.Next.{issue_of, end_of, slow_passes, slow_of, first_of, multi_of, step_in, next_of}
use Rattle.rounds.specs.Result.{is_lost, ends_multi, phase_after, round_after, result_of}
use Rattle.poller.specs.State.{open_of, due_of}
use Rattle.rounds.specs.declared.Outcome.{Outcome}
use Rattle.poller.specs.declared.Phase.{Phase}
use Rattle.poller.specs.declared.Phase.TheVariants.{Closed, First, FastDue, Test, SlowDue, Multi, MultiDue, Over}
use Rattle.poller.specs.declared.Poller.{Poller}
use Rattle.rounds.specs.declared.Step.TheVariants.{End}
use Rattle.rounds.specs.declared.Stepped.{Stepped}
use Rattle.poll_laws.specs.Rounds.{queries_in, queries_left, Stride, ended, issued, Settled, Turn, or_ends, ends_within, turned}

end_stride : (p q : Poller) (n : ℕ) → q.round.issued ≡ p.round.issued → Stride p n (end_of q)
unfolding end_of
end_stride p q n e = ended (ap End e) refl

slow_stride : (p : Poller) (t : ℕ) → Stride p 1 (slow_of p t)
unfolding issue_of
slow_stride p t =
    cases _ (slow_passes p t)
    (λ e.
    cases _ (found (nextPid p.slow) && p.link.connected)
    (λ f. rw (slow_sent p t e f) (issued refl refl refl (omega arith)))
    (λ f. rw (slow_unsent p t e f) (end_stride p _ 1 refl)))
    (λ e. rw (slow_not p t e) (end_stride p p 1 refl))

wider : (p : Poller) (m n : ℕ) (r : Stepped) → m ≤ n → Stride p m r → Stride p n r
wider p m n r h (ended e f) = ended e f
wider p m n r h (issued e f k g) = issued e f k (omega arith)

first_stride : (p : Poller) (t : ℕ) → Stride p 2 (first_of p t)
unfolding issue_of
first_stride p t =
    cases _ (found (nextPid p.fast))
    (λ e. rw (first_some p t e) (issued refl refl refl (omega arith)))
    (λ e. rw (first_none p t e) (wider p 1 2 _ (omega arith) (slow_stride p t)))

multi_stride : (p : Poller) → Stride p (length (left_of p.plan)) (multi_of p)
unfolding issue_of
multi_stride p =
    let n = (take_of p.plan).chunk.count in
    cases _ (eqb n 0)
    (λ e. rw (multi_end p e) (end_stride p p _ refl))
    (λ e. rw (multi_some p e) (issued refl refl refl (let l = ap length (rw e at (take_left p.plan)) in omega arith)))

step_stride : (x : Phase) (p : Poller) (t : ℕ) → Stride p (queries_in x (length (left_of p.plan))) (step_in x p t)
step_stride Closed p t = end_stride p p _ refl
step_stride First p t = first_stride p t
step_stride FastDue p t = end_stride p p _ refl
step_stride Test p t = slow_stride p t
step_stride SlowDue p t = end_stride p p _ refl
step_stride Multi p t = multi_stride p
step_stride MultiDue p t = end_stride p p _ refl
step_stride Over p t = end_stride p p _ refl

pub next_stride : (p : Poller) (t : ℕ) → Stride p (queries_left p) (next_of p t)
unfolding next_of
next_stride p t = step_stride p.round.phase p t

phase_settled : (x : Phase) (over : Bool) (n : ℕ)
    → (open_of (phase_after x over) ≡ open_of x) × (due_of (phase_after x over) ≡ false) × (queries_in (phase_after x over) n ≤ queries_in x n)
phase_settled Closed over n = (refl, refl, omega arith)
phase_settled First over n = (refl, refl, omega arith)
phase_settled FastDue over n = (refl, refl, omega arith)
phase_settled Test over n = (refl, refl, omega arith)
phase_settled SlowDue over n = (refl, refl, omega arith)
phase_settled Multi over n = (refl, refl, omega arith)
phase_settled MultiDue true n = (refl, refl, omega arith)
phase_settled MultiDue false n = (refl, refl, omega arith)
phase_settled Over over n = (refl, refl, omega arith)

pub result_settled : (p : Poller) (t : ℕ) (o : Outcome) → Settled p (result_of p t o)
unfolding round_after
result_settled p t o =
    let s = phase_settled p.round.phase (ends_multi p.round.due.count (is_no o.features.multi) (is_lost o.kind)) (length (left_of p.plan)) in
    rw (result_due_law p t o) (record { stands = s.0; taken = s.1; fewer = s.2; count = refl })

turn_ends : (u : Turn) (us : List Turn) (p : Poller) (n : ℕ) → Stride p n (next_of p u.asked)
    → (queries_left (turned u p) < n → ends_within us (turned u p) ≡ true)
    → or_ends (next_of p u.asked).step (ends_within us (turned u p)) ≡ true
turn_ends u us p n (ended e f) later = rw e
turn_ends u us p n (issued e f m g) later =
    let s = (result_settled (next_of p u.asked).poller u.came u.outcome).fewer in
    rw e (later (omega arith))

-- Whatever the times and the results: one more turn than there are queries left ends the round.
pub round_ends : (us : List Turn) (p : Poller) → queries_left p < length us → ends_within us p ≡ true
unfolding ends_within
round_ends [] p h = absurd (omega arith)
round_ends (u ∷ us) p h = turn_ends u us p (queries_left p) (next_stride p u.asked) (λ z. round_ends us (turned u p) (omega arith))

-- A round that begins has at most as many queries as the lists have entries, or a single round's two.
pub begin_left : (p : Poller) (s : Settings) (n : ℕ) → length p.fast.pids ≡ 256 → length p.slow.pids ≡ 256 → length (entries p.fast) + length (entries p.slow) ≤ n → 2 ≤ n
    → (open_of (begin_of p s).round.phase ≡ true) × (due_of (begin_of p s).round.phase ≡ false) × (queries_left (begin_of p s) ≤ n)
begin_left p s n f g few two =
    cases _ p.link.connected
    (λ e. cases _ (multi_allowed s.multi (is_no p.link.features.multi))
    (λ m. rw (begin_multi p s e m) (refl, refl, most))
    (λ m. rw (begin_single p s e m) (refl, refl, omega arith)))
    (λ e. rw (begin_over p s e) (refl, refl, omega arith))
  where
    most : length (left_of (plan_of p.fast p.slow p.counts p.link.known s.maxpids)) ≤ n
    most =
        let l = round_length (keys_of p.counts p.link.known) s.maxpids (entries p.fast ++ entries p.slow) in
        rw (plan_left p.fast p.slow p.counts p.link.known s.maxpids f g) (omega (arith, length-append (entries p.fast) (entries p.slow)))
