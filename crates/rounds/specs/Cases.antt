-- Each definition of the calls, case by case: what the functions' proofs and the laws cite.
use Rattle.std.specs.Prelude.{◌≡◌, ℕ, suc, ◌+◌, ◌<◌, ◌≤◌, true, false, ◌&&◌, List, [], ◌∷◌, length, drop, ◌==◌, nat_eq, slice_index, slice_index_or}
use Rattle.std.proofs.Math.Path.{refl, ap}
use Rattle.std.proofs.Common.{arith, drop_of_length-le, drop-cons, get_or-drop, drop-drop}
use Rattle.base.specs.Choice.{cases}
use Rattle.base.specs.Count.{more_of}
use Rattle.link.specs.Rules.{is_no}
use Rattle.pid_list.specs.Rules.{found, pid_of, next_of as nextPid}
use Rattle.plan.specs.Steps.{chunk_of, take_of}
use Rattle.rounds.specs.Next.{issue_of, end_of, slow_passes, slow_of, first_of, multi_of, step_in, next_of}
use Rattle.rounds.specs.Numbers.{step_values, values_from}
use Rattle.rounds.specs.Result.{nothing, teach_of, teach_all, is_lost, lessons_of, link_after, round_after, clock_after, result_of}
use Rattle.poller.specs.State.{with_fast, with_slow, with_plan}
use Rattle.poller.specs.declared.Phase.{Phase}
use Rattle.poller.specs.declared.Phase.TheVariants.{Closed, First, FastDue, Test, SlowDue, Multi, MultiDue, Over}
use Rattle.poller.specs.declared.Poller.{Poller}
use Rattle.rounds.specs.declared.Learnt.{Learnt}
use Rattle.rounds.specs.declared.Lessons.{Lessons}
use Rattle.rounds.specs.declared.Outcome.{Outcome}
use Rattle.rounds.specs.declared.Stepped.{Stepped}

module _ (p : Poller) where
  module _ (t : ℕ) where
    pub slow_not : slow_passes p t ≡ false → slow_of p t ≡ end_of p
    unfolding slow_of
    slow_not e = rw e

    pub slow_sent : slow_passes p t ≡ true → (found (nextPid p.slow) && p.link.connected) ≡ true
        → slow_of p t ≡ issue_of (with_slow p (nextPid p.slow).list p.clock 0) SlowDue (chunk_of (pid_of (nextPid p.slow) ∷ []))
    unfolding slow_of
    slow_sent e f = rw (e, f)

    pub slow_unsent : slow_passes p t ≡ true → (found (nextPid p.slow) && p.link.connected) ≡ false
        → slow_of p t ≡ end_of (with_slow p (nextPid p.slow).list t 0)
    unfolding slow_of
    slow_unsent e f = rw (e, f)

    pub first_some : found (nextPid p.fast) ≡ true
        → first_of p t ≡ issue_of (with_fast p (nextPid p.fast).list (more_of p.requests)) FastDue (chunk_of (pid_of (nextPid p.fast) ∷ []))
    unfolding first_of
    first_some e = rw e

    pub first_none : found (nextPid p.fast) ≡ false → first_of p t ≡ slow_of p t
    unfolding first_of
    first_none e = rw e

  pub multi_end : nat_eq (take_of p.plan).chunk.count 0 ≡ true → multi_of p ≡ end_of p
  unfolding multi_of
  multi_end e = rw e

  pub multi_some : nat_eq (take_of p.plan).chunk.count 0 ≡ false
      → multi_of p ≡ issue_of (with_plan p (take_of p.plan).plan) MultiDue (take_of p.plan).chunk
  unfolding multi_of
  multi_some e = rw e

  module _ (t : ℕ) (o : Outcome) where
    pub result_due_law : result_of p t o ≡ record {
      fast = p.fast;
      slow = p.slow;
      clock = clock_after p.round.phase p.clock t;
      requests = p.requests;
      counts = (lessons_of p o).counts;
      link = link_after p.link (lessons_of p o).known o.features (is_lost o.kind);
      settings = p.settings;
      plan = p.plan;
      round = round_after p.round (is_no o.features.multi) (is_lost o.kind);
    }
    unfolding result_of
    result_due_law = refl

-- ---- the loop of `learn`, one turn and its end

teach_cons : (k : Lessons) (q : ℕ) (qs : List ℕ) (ls : List Learnt) → teach_all k (q ∷ qs) ls ≡ teach_all (teach_of k q (slice_index_or ls 0 nothing)) qs (drop 1 ls)
unfolding teach_all
teach_cons k q qs ls = refl

module _ (k : Lessons) (qs : List ℕ) (ls : List Learnt) (i : ℕ) where
  pub teach_turn : i < length qs → teach_all k (drop i qs) (drop i ls) ≡ teach_all (teach_of k (slice_index qs i) (slice_index_or ls i nothing)) (drop (i + 1) qs) (drop (i + 1) ls)
  teach_turn h =
      let e : i + 0 ≡ i = omega arith in
      let g = rw e at (get_or-drop i ls 0 nothing) in
      let d = drop-drop 1 i ls in
      let s : suc i ≡ i + 1 = omega arith in
      rw (drop-cons qs i 0 h, teach_cons, g, d, s)

  pub teach_end : length qs ≤ i → teach_all k (drop i qs) (drop i ls) ≡ k
  unfolding teach_all
  teach_end h = rw (drop_of_length-le qs h)

-- ---- the values of a query and of a round's end

abbrev Answers : Poller → Stepped → Type 0
Answers p r = step_values r.step r.poller.round.due ≡ values_from p.counts p.round.issued r.step r.poller.round.due

module _ (p : Poller) where
  slow_answers : (t : ℕ) → Answers p (slow_of p t)
  unfolding issue_of end_of
  slow_answers t = cases _ (slow_passes p t)
      (λ e. cases _ (found (nextPid p.slow) && p.link.connected) (λ f. rw (slow_sent p t e f)) (λ f. rw (slow_unsent p t e f)))
      (λ e. rw (slow_not p t e))

  step_answers : (x : Phase) (t : ℕ) → Answers p (step_in x p t)
  unfolding issue_of end_of
  step_answers Closed t = refl
  step_answers First t = cases _ (found (nextPid p.fast)) (λ e. rw (first_some p t e)) (λ e. rw (first_none p t e) (slow_answers t))
  step_answers FastDue t = refl
  step_answers Test t = slow_answers t
  step_answers SlowDue t = refl
  step_answers Multi t = cases _ ((take_of p.plan).chunk.count == 0) (λ e. rw (multi_end p e)) (λ e. rw (multi_some p e))
  step_answers MultiDue t = refl
  step_answers Over t = refl

  -- What `next` does in a phase.
  pub next_in : (t : ℕ) {x : Phase} → p.round.phase ≡ x → next_of p t ≡ step_in x p t
  unfolding next_of
  next_in t e = ap (λ (x : Phase). step_in x p t) e

  -- All that `next` promises.
  pub next_all : (t : ℕ) {r : Stepped} → r ≡ next_of p t → (r ≡ next_of p t) × Answers p r
  unfolding next_of
  next_all t e = (e, rw e (step_answers p.round.phase t))
