-- The laws of `OnlySlow`: such a round passes the slow test; what the test goes by in every other round.
use Rattle.std.specs.Prelude.{Bool, true, false, ◌≡◌, refl, ℕ, ◌+◌, ◌-◌, ◌%◌, ◌<◌, leb, eqb, get_or}
use Rattle.std.proofs.Common.{ap, ◌∙◌}
use borrow.Author.Tests.{eq-eqb, ne_eqb}
use Rattle.base.specs.Choice.{pick}
use Rattle.config.specs.declared.Settings.{Settings}
use Rattle.pid_list.specs.Members.{Sound}
use Rattle.pid_list.specs.Robin.{next_none, next_some}
use Rattle.pid_list.specs.Rules.{entries, with_index}
use Rattle.poll_laws.specs.Asked.{Asks}
use Rattle.poll_laws.proofs.Asked.{slow_asks}
use Rattle.poller.specs.Calls.{none_in, begin_of}
use Rattle.poller.specs.Cases.{begin_single}
use Rattle.poller.specs.State.{opened_round, closed_round, with_round, with_settings, with_slow}
use Rattle.poller.specs.declared.Phase.TheVariants.{First, SlowDue}
use Rattle.poller.specs.declared.Poller.{Poller}
use Rattle.rounds.specs.Cases.{first_none, slow_sent, slow_unsent, next_in}
use Rattle.rounds.specs.Next.{issue_of, end_of, slow_due, slow_passes, slow_of, next_of}
use Rattle.rounds.specs.declared.Step.TheVariants.{End}
use Rattle.poll_laws.specs.OnlySlow.{OnlySlow}

-- ---- every other round: Interval mode, and a round that began with a fast PID

pub interval_test : (s : Settings) (nofast : Bool) (t clock requests : ℕ) → s.mode ≡ 0 → slow_due s nofast t clock requests ≡ leb s.interval (t - clock)
unfolding slow_due
interval_test s nofast t clock requests e = rw (eq-eqb s.mode 0 e)

pub fast_test : (s : Settings) (t clock requests : ℕ)
    → slow_due s false t clock requests ≡ pick (eqb s.mode 0) (leb s.interval (t - clock)) (leb s.ratio requests)
unfolding slow_due
fast_test s t clock requests = refl

-- ---- such a round

module _ (p : Poller) (s : Settings) (only : OnlySlow p s) (t : ℕ) where
  abbrev begun : Poller
  begun = with_round (with_settings p s) (opened_round First (none_in p.fast))

  -- The test passes, whatever ratio, fast requests and slow clock are.
  passes : slow_passes begun t ≡ true
  unfolding slow_due
  passes = rw (ne_eqb s.mode 0 only.ratio, eq-eqb p.fast.len 0 only.none)

  -- The round's first `next` makes it.
  tests : next_of (begin_of p s) t ≡ slow_of begun t
  tests =
      ap (λ (x : Poller). next_of x t) (begin_single p s only.up only.single)
      ∙ next_in begun t refl
      ∙ first_none begun t (rw (next_none p.fast only.none))

  -- The slow entry at the index is asked, the index moves on by one, the fast requests start anew, and the slow clock stays till the
  -- result comes (`result_clock`).
  pub only_slow_asks : Sound p.slow → 0 < p.slow.len
      → Asks (next_of (begin_of p s) t) (get_or (entries p.slow) p.slow.index 0) (get_or p.counts (get_or (entries p.slow) p.slow.index 0) 0)
      × ((next_of (begin_of p s) t).poller.slow ≡ with_index p.slow ((p.slow.index + 1) % p.slow.len))
      × ((next_of (begin_of p s) t).poller.requests ≡ 0)
      × ((next_of (begin_of p s) t).poller.clock ≡ p.clock)
      × ((next_of (begin_of p s) t).poller.round.phase ≡ SlowDue)
  unfolding issue_of
  only_slow_asks sound some =
      let n = next_some p.slow sound some in
      let a = slow_asks begun t passes only.up sound some in
      let e = slow_sent begun t passes (rw (n, only.up)) in
      rw tests (a.0, a.1, rw e, rw e, rw e)

  -- Both lists empty: the round ends without a query; the slow clock is set and the fast requests start anew.
  pub nothing_asked : p.slow.len ≡ 0
      → next_of (begin_of p s) t ≡ record { poller = with_round (with_slow (with_settings p s) p.slow t 0) closed_round; step = End 0 }
  unfolding end_of
  nothing_asked none =
      let n = next_none p.slow none in
      tests ∙ slow_unsent begun t passes (rw n) ∙ rw n
