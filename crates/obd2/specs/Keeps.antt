-- What holds of every call, by its accepted case alone: a refused call changes nothing, an accepted one has a time that
-- the box takes and keeps it, and the number in the answer is the refusal's.
use Rattle.std.specs.Prelude.{◌≡◌, ℕ, true, false, List, [], ◌∷◌, ◌==◌, ◌≢◌}
use Rattle.std.proofs.Math.Path.{refl}
use Rattle.std.proofs.Common.{sym, ◌∙◌, eqb-true}
use Rattle.base.specs.Choice.{pick, cases}
use Rattle.base.specs.Refusal.{first_here, first_next}
use Rattle.obd2.specs.Answers.{Tells, settled_tells, Answers, answers, settled_done, settled_refused}
use Rattle.obd2.specs.Call.{Call, Fit, Calls, none, more, time_of}
use Rattle.obd2.specs.Done.{done_of}
use Rattle.obd2.specs.History.{refused, accepting, step, in_time, run, accepted_by}
use Rattle.obd2.specs.Refusals.{bad_time, rows_of, row_refusal, refusal_of}
use Rattle.obd2.specs.State.{at}
use Rattle.obd2.specs.Answer.{Answered}
use Rattle.obd2.specs.declared.State.{State}

module _ (s : State) (c : Call) where
  -- The time's test, and behind it the rows.
  pub late : bad_time s.time (time_of c) ≡ true → refusal_of s c ≡ 1
  unfolding refusal_of
  late e = first_here 1 _ (rows_of s c) e

  pub timely : bad_time s.time (time_of c) ≡ false → refusal_of s c ≡ row_refusal s c
  unfolding refusal_of row_refusal
  timely e = first_next 1 _ (rows_of s c) e

  pub step_late : bad_time s.time (time_of c) ≡ true → step s c ≡ refused s 1
  unfolding step
  step_late e = rw (late e)

  pub step_timely : bad_time s.time (time_of c) ≡ false → step s c ≡ in_time s c
  unfolding step in_time
  step_timely e = rw (timely e)

  -- A call whose time is taken, and of which a component told the refusal n.
  module _ (n : ℕ) (e : n ≡ row_refusal s c) {a : Answered} where
    pub told_refused : (n ≢ 0) → a ≡ refused s n → Answers s c a
    unfolding in_time
    told_refused h f = answers (settled_refused s _ (row_refusal s c) (sym e) h f)

    pub told_done : n ≡ 0 → a ≡ accepting (time_of c) (done_of s c) → Answers s c a
    unfolding in_time
    told_done h f = answers (settled_done s _ (row_refusal s c) (sym e ∙ h) f)

  -- The box that an accepted call leaves.
  abbrev pub after : State
  after = at (done_of s c).state (time_of c)

  pub step_done : refusal_of s c ≡ 0 → step s c ≡ accepting (time_of c) (done_of s c)
  unfolding step
  step_done e = rw e

  -- What an accepted call keeps, every call keeps.
  pub step_keeps : (P : State → Type 0) → P s → (refusal_of s c ≡ 0 → P after) → P (step s c).state
  unfolding step
  step_keeps P h f = cases _ (refusal_of s c == 0) (λ e. rw e (f (eqb-true _ 0 e))) (λ e. rw e h)

  pub step_leaves : {A : Type 0} (f : State → A) → (refusal_of s c ≡ 0 → f after ≡ f s) → f (step s c).state ≡ f s
  step_leaves f k = step_keeps (λ x. f x ≡ f s) refl k

  -- "the answers tell which were accepted"
  pub step_tells : Tells (refusal_of s c) (done_of s c).said (done_of s c).details (step s c)
  unfolding step
  step_tells = settled_tells (refusal_of s c) s after (done_of s c).said (done_of s c).details refl

  pub accepted_is : accepted_by (step s c).answer ≡ (refusal_of s c == 0)
  unfolding step
  accepted_is = cases _ (refusal_of s c == 0) (λ e. rw e) (λ e. rw e)

  pub accepted_free : accepted_by (step s c).answer ≡ true → refusal_of s c ≡ 0
  accepted_free a = eqb-true _ 0 (sym accepted_is ∙ a)

  -- What is read of the accepted calls is so of the box.
  pub step_reads : {A : Type 0} (f : State → A) (x : A) → (refusal_of s c ≡ 0 → x ≡ f after) → pick (accepted_by (step s c).answer) x (f s) ≡ f (step s c).state
  unfolding step
  step_reads f x k = cases _ (refusal_of s c == 0) (λ e. rw e (k (eqb-true _ 0 e))) (λ e. rw e)

pub run_keeps : (P : State → Type 0) → ((s : State) (c : Call) → Fit c → P s → refusal_of s c ≡ 0 → P (after s c))
    → (cs : List Call) (s : State) → Calls cs → P s → P (run s cs)
unfolding run
run_keeps P f [] s none h = h
run_keeps P f (c ∷ cs) s (more x xs) h = run_keeps P f cs (step s c).state xs (step_keeps s c P h (λ e. f s c x h e))
