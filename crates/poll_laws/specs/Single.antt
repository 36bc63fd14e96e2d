-- The moments of a single round: when the slow index moves, when the slow clock is set; and that a multi round touches neither.
use Rattle.std.specs.Prelude.{Bool, true, false, ◌&&◌, ◌≡◌, refl, ℕ, eqb}
use Rattle.base.specs.Choice.{pick, cases}
use Rattle.config.specs.declared.Settings.{Settings}
use Rattle.pid_list.specs.Rules.{found, next_of as nextPid}
use Rattle.plan.specs.Steps.{take_of}
use Rattle.poller.specs.Calls.{begin_of}
use Rattle.poller.specs.Cases.{begin_over}
use Rattle.rounds.specs.Cases.{slow_not, slow_sent, slow_unsent, first_some, multi_end, multi_some, result_due_law, next_in}
use Rattle.rounds.specs.Next.{issue_of, end_of, slow_passes, slow_of, first_of, next_of}
use Rattle.rounds.specs.Result.{result_of}
use Rattle.poller.specs.State.{closed_round, with_round, with_settings}
use Rattle.rounds.specs.declared.Outcome.{Outcome}
use Rattle.poller.specs.declared.Phase.TheVariants.{SlowDue, Multi, Over}
use Rattle.poller.specs.declared.Poller.{Poller}
use Rattle.rounds.specs.declared.Step.TheVariants.{End}

module _ (p : Poller) (t : ℕ) where
  abbrev due : Bool
  due = slow_passes p t

  abbrev sent : Bool
  sent = found (nextPid p.slow) && p.link.connected

  -- The slow index moves at a passed test, whether or not the connection stands; the fast list stays.
  pub slow_lists : ((slow_of p t).poller.slow ≡ pick due (nextPid p.slow).list p.slow) × ((slow_of p t).poller.fast ≡ p.fast)
  unfolding issue_of end_of
  slow_lists = cases _ due
      (λ e. cases _ sent (λ f. rw (slow_sent p t e f, e) (refl, refl)) (λ f. rw (slow_unsent p t e f, e) (refl, refl)))
      (λ e. rw (slow_not p t e, e) (refl, refl))

  -- The slow clock is set at a passed test that sends nothing ..
  pub slow_clock : (slow_of p t).poller.clock ≡ pick due (pick sent p.clock t) p.clock
  unfolding issue_of end_of
  slow_clock = cases _ due
      (λ e. cases _ sent (λ f. rw (slow_sent p t e f, e, f)) (λ f. rw (slow_unsent p t e f, e, f)))
      (λ e. rw (slow_not p t e, e))

  -- .. and else at the slow result.
  pub result_clock : (o : Outcome) → p.round.phase ≡ SlowDue → (result_of p t o).clock ≡ t
  result_clock o e = rw (result_due_law p t o, e)

  -- The fast query moves the fast list alone.
  pub first_slow : found (nextPid p.fast) ≡ true → ((first_of p t).poller.slow ≡ p.slow) × ((first_of p t).poller.clock ≡ p.clock)
  unfolding issue_of
  first_slow e = rw (first_some p t e) (refl, refl)

-- A multi round leaves the lists with their indexes, the slow clock and the fast requests.
pub multi_aside : (p : Poller) (t : ℕ) → p.round.phase ≡ Multi
    → ((next_of p t).poller.fast ≡ p.fast) × ((next_of p t).poller.slow ≡ p.slow) × ((next_of p t).poller.clock ≡ p.clock) × ((next_of p t).poller.requests ≡ p.requests)
unfolding issue_of end_of
multi_aside p t e =
    let a = next_in p t e in
    cases _ (eqb (take_of p.plan).chunk.count 0)
    (λ f. rw (a, multi_end p f) (refl, refl, refl, refl))
    (λ f. rw (a, multi_some p f) (refl, refl, refl, refl))

-- A round that is over ends at the next step, with its count, and moves nothing.
pub over_ends : (p : Poller) (t : ℕ) → p.round.phase ≡ Over → next_of p t ≡ record { poller = with_round p closed_round; step = End p.round.issued }
unfolding end_of
over_ends p t e = next_in p t e

-- A round begun without a connection ends with count 0.
pub begun_without : (p : Poller) (s : Settings) (t : ℕ) → p.link.connected ≡ false
    → next_of (begin_of p s) t ≡ record { poller = with_round (with_settings p s) closed_round; step = End 0 }
begun_without p s t down = rw (begin_over p s down) (over_ends _ t refl)
