-- Demand 3, proved.
use Rattle.std.specs.Prelude.{false, List, [], ◌∷◌, ◌++◌, ◌≡◌, ℕ, eqb}
use Rattle.std.proofs.Common.{ap, sym, subst, ◌∙◌, arith}
use Rattle.base.specs.Choice.{cases}
use Rattle.config.specs.declared.Profiles.{Profiles}
use Rattle.config.specs.declared.Settings.{Settings}
use Rattle.control.specs.Speed.{Agree}
use Rattle.control_line.specs.Ring.{waiting}
use Rattle.pid_list.specs.Rules.{entries}
use Rattle.obd2.specs.Call.{Call, manager, cache, settings, take_control, link, round, FitSettings, Fit, Calls, none, more, Made}
use Rattle.obd2.specs.Done.{done_of}
use Rattle.obd2.specs.History.{start_of, run, happened, run_append}
use Rattle.obd2.specs.Keeps.{after, run_keeps}
use Rattle.obd2.specs.Refusals.{start_refusal, round_open, refusal_of}
use Rattle.obd2.specs.State.{started, managed}
use Rattle.obd2.specs.declared.State.{State}
use Rattle.agreement.specs.Claim.{tracked, taking, taken_all, box_after, read_after, ending}
use Rattle.agreement.proofs.Settles.{takes_fit}
use Rattle.agreement.proofs.Theorem.{claim, round_calls, box_good, all_taken}
use Rattle.readings.proofs.Theorem.{readings}
use Rattle.round_robin.specs.Claim.{Asked, Lasting, there, read, rounds_after, marks_after}
use Rattle.round_robin.specs.Marks.{Mark, open_over, rounds}
use Rattle.round_robin.proofs.Runs.{marks_told, later_told}
use Rattle.round_robin.proofs.Theorem.{theorem_since, read_is, open_is}
use Rattle.promise.specs.Statement.{settling, Ending, From, Demand}

calls_append : (cs ds : List Call) → Calls cs → Calls ds → Calls (cs ++ ds)
calls_append [] ds none k = k
calls_append (c ∷ cs) ds (more f fs) k = more f (calls_append cs ds fs k)

-- A ratio has 32 bits: the start's and each settings call's has.
done_fits : (s : State) (c : Call) → Fit c → FitSettings s.settings → refusal_of s c ≡ 0 → FitSettings (after s c).settings
unfolding done_of managed
done_fits s (manager t c) f h e = h
done_fits s (cache t c) f h e = h
done_fits s (settings t st) f h e = f
done_fits s (take_control t) f h e = h
done_fits s (link t c) f h e = h
done_fits s (round t c) f h e = h

start_fits : (t : ℕ) (st : Settings) (ps : Profiles) → FitSettings st → FitSettings (start_of t st ps).state.settings
unfolding start_of started
start_fits t st ps f = cases _ (eqb (start_refusal t st ps) 0) (λ e. rw e f) (λ e. rw e (omega arith))

module _ (t : ℕ) (st : Settings) (ps : Profiles) where
  box_fits : (cs : List Call) → Made st cs → FitSettings (there t st ps cs).settings
  box_fits cs m = run_keeps (λ s. FitSettings s.settings) done_fits cs (start_of t st ps).state m.calls (start_fits t st ps m.start)

  -- What the history tells of an open round is so of the box.
  told_open : (cs : List Call) → open_over false (marks_after t st ps cs) ≡ round_open (there t st ps cs)
  told_open cs = ap (λ (ms : List Mark). open_over false ms) (marks_told t st ps cs) ∙ open_is t st ps cs

  -- From any list after which no round is open.
  asks : (before later : List Call) → Made st before → round_open (there t st ps before) ≡ false → Lasting (read t st ps before) (happened (there t st ps before) later)
      → Asked (entries (there t st ps before).poller.fast) (entries (there t st ps before).poller.slow) (read t st ps before).settings (rounds_after t st ps before later)
  asks before later m closed l =
      subst (λ (ms : List Mark). Asked (entries (there t st ps before).poller.fast) (entries (there t st ps before).poller.slow) (read t st ps before).settings (rounds ms))
      (sym (later_told t st ps before later))
      (theorem_since t st ps before (box_good t st ps before m.calls).kept.0.lists_sound (rw (read_is t st ps before) (box_fits before m)) (open_is t st ps before ∙ closed) later l)

  module _ (cs ds : List Call) where
    settled_there : there t st ps (settling t st ps cs ds) ≡ taken_all (run (box_after t st ps cs) ds)
    settled_there =
        let b = (start_of t st ps).state in
        let s = run (box_after t st ps cs) ds in
        run_append cs (ds ++ taking s) b ∙ run_append ds (taking s) (run b cs)

    both : open_over false (marks_after t st ps (cs ++ ds)) ≡ round_open (run (box_after t st ps cs) ds)
    both = told_open (cs ++ ds) ∙ ap round_open (run_append cs ds (start_of t st ps).state)

    module _ (m : Made st cs) (e : Ending t st ps cs ds) where
      closed : round_open (run (box_after t st ps cs) ds) ≡ false
      closed = sym both ∙ e.over

      settled_made : Made st (settling t st ps cs ds)
      settled_made = record {
        start = m.start;
        calls = calls_append cs _ m.calls (calls_append ds _ (round_calls e.of_round) (takes_fit (run (box_after t st ps cs) ds)));
      }

      settled_from : From t st ps (settling t st ps cs ds) (tracked (read_after t st ps cs))
      settled_from =
          let before = settling t st ps cs ds in
          let a = claim.agreement t st ps cs ds m.calls e.of_round closed in
          let still = ap round_open settled_there ∙ (all_taken t st ps cs m.calls ds e.of_round closed).2 in
          record {
            taken = ap (λ (s : State). waiting s.line) settled_there ∙ a.0;
            agree = subst (λ (s : State). Agree (entries s.poller.fast) (entries s.poller.slow) (tracked (read_after t st ps cs))) (sym settled_there) a.1;
            asked = λ later l. asks before later settled_made still l;
          }

pub demand : Demand
demand =
    record {
      settled = settled_from;
      rounds_end = λ t st ps cs m os n.
          let k = claim.rounds_end t st ps cs m.calls os n in
          let ds = ending os (box_after t st ps cs) in
          (record { of_round = k.of_round; over = both t st ps cs ds ∙ k.closed }, k.few);
      told = marks_told;
      readings = λ t st ps cs m. readings t st ps cs m.calls;
    }
