-- What the rules make of the accepted calls is what is so of the box, and the rounds that they make are those that the answers tell.
use Rattle.std.specs.Prelude.{List, [], ◌∷◌, map, ◌≡◌, ℕ, eqb}
use Rattle.std.proofs.Math.Path.{refl}
use Rattle.std.proofs.Common.{ap, sym, ◌∙◌, eqb-true}
use Rattle.agreement.proofs.ReadOff.{read_off, managed_is, done_read}
use Rattle.base.specs.Choice.{pick, cases}
use Rattle.config.specs.declared.Profiles.{Profiles}
use Rattle.config.specs.declared.Settings.{Settings}
use Rattle.obd2.specs.Call.{Call, manager, cache, settings, take_control, link, round, Connect, Fail, Check, Begin, Next, Result}
use Rattle.obd2.specs.Done.{link_by, round_by, done_of}
use Rattle.obd2.specs.History.{start_of, event_of, accepted, step, run, happened}
use Rattle.obd2.specs.Keeps.{after, step_reads}
use Rattle.obd2.specs.Refusals.{start_refusal, refusal_of}
use Rattle.obd2.specs.State.{started, managed}
use Rattle.obd2.specs.declared.State.{State}
use Rattle.round_robin.specs.Claim.{sofar, there, run_start, run_after, marks_after}
use Rattle.round_robin.specs.Marks.{Mark, aside, Running, run_call, mark_by, running, marks, mark_done, mark}

-- The reading of a box.
abbrev pub run_off : State → Running
run_off s = record { reading = read_off s; line = s.line; poller = s.poller }

module _ (s : State) where
  done_run : (c : Call) → refusal_of s c ≡ 0 → run_call (run_off s) c ≡ run_off (after s c)
  unfolding run_call done_of link_by round_by managed
  done_run (manager t c) e = rw (managed_is s t c e, done_read s (manager t c) e)
  done_run (cache t c) e = refl
  done_run (settings t st) e = rw (done_read s (settings t st) e)
  done_run (take_control t) e = refl
  done_run (link t (Connect x)) e = refl
  done_run (link t Fail) e = refl
  done_run (link t Check) e = refl
  done_run (round t Begin) e = refl
  done_run (round t Next) e = refl
  done_run (round t (Result o)) e = refl

  done_mark : (c : Call) → mark_by (run_off s) c ≡ mark_done c (done_of s c).said (done_of s c).details.query
  unfolding mark_by done_of round_by
  done_mark (manager t c) = refl
  done_mark (cache t c) = refl
  done_mark (settings t st) = refl
  done_mark (take_control t) = refl
  done_mark (link t c) = refl
  done_mark (round t Begin) = refl
  done_mark (round t Next) = refl
  done_mark (round t (Result o)) = refl

  step_run : (c : Call) → pick (accepted (event_of s c)) (run_call (run_off s) c) (run_off s) ≡ run_off (step s c).state
  step_run c = step_reads s c run_off (run_call (run_off s) c) (done_run c)

  step_mark_law : (c : Call) → pick (accepted (event_of s c)) (mark_by (run_off s) c) aside ≡ mark (event_of s c)
  unfolding step
  step_mark_law c = cases _ (eqb (refusal_of s c) 0) (λ e. rw e (done_mark c)) (λ e. rw e)

-- Over a history.
run_reads : (cs : List Call) (s : State) → running (run_off s) (happened s cs) ≡ run_off (run s cs)
unfolding running happened run
run_reads [] s = refl
run_reads (c ∷ cs) s = ap (λ (k : Running). running k (happened (step s c).state cs)) (step_run s c) ∙ run_reads cs (step s c).state

run_marks : (cs : List Call) (s : State) → marks (run_off s) (happened s cs) ≡ map mark (happened s cs)
unfolding marks happened
run_marks [] s = refl
run_marks (c ∷ cs) s =
    let s' = (step s c).state in
    ap (λ (m : Mark). m ∷ marks (pick (accepted (event_of s c)) (run_call (run_off s) c) (run_off s)) (happened s' cs)) (step_mark_law s c)
    ∙ ap (λ (k : Running). mark (event_of s c) ∷ marks k (happened s' cs)) (step_run s c)
    ∙ ap (λ (ms : List Mark). mark (event_of s c) ∷ ms) (run_marks cs s')

module _ (t : ℕ) (st : Settings) (ps : Profiles) where
  start_run : run_start t st ps ≡ run_off (start_of t st ps).state
  unfolding start_of started
  start_run = cases _ (eqb (start_refusal t st ps) 0) (λ e. rw e) (λ e. rw e)

  -- The rounds by the rules are those by the answers.
  pub marks_told : (before : List Call) → marks_after t st ps before ≡ map mark (sofar t st ps before)
  marks_told before = ap (λ (k : Running). marks k (sofar t st ps before)) start_run ∙ run_marks before (start_of t st ps).state

  pub later_told : (before later : List Call)
      → marks (run_after t st ps before) (happened (there t st ps before) later) ≡ map mark (happened (there t st ps before) later)
  later_told before later =
      ap (λ (k : Running). marks k (happened (there t st ps before) later)) (ap (λ (k : Running). running k (sofar t st ps before)) start_run ∙ run_reads before (start_of t st ps).state)
      ∙ run_marks later (there t st ps before)
