-- The laws of `Ratio`: how fast requests count, and how soon the slow test passes.
use Rattle.std.specs.Prelude.{true, false, ◌&&◌, ◌≡◌, refl, ℕ, zero, suc, ◌+◌, ◌≤◌, max, leb}
use Rattle.std.proofs.Common.{ap, sym, ◌∙◌, arith, leb-false, le-leb, ne_eqb}
use Rattle.base.specs.Choice.{pick, cases}
use Rattle.base.specs.Count.{more_of, more_is}
use Rattle.config.specs.declared.Settings.{Settings}
use Rattle.pid_list.specs.Rules.{found, next_of as nextPid}
use Rattle.poll_laws.specs.Keeps.{result_untouched}
use Rattle.rounds.specs.Cases.{slow_not, slow_sent, slow_unsent, first_some, result_due_law, next_in}
use Rattle.rounds.specs.Next.{issue_of, end_of, slow_due, slow_passes, slow_of, next_of}
use Rattle.rounds.specs.Result.{round_after, result_of}
use Rattle.rounds.specs.declared.Outcome.{Outcome}
use Rattle.poller.specs.declared.Phase.TheVariants.{First, FastDue, Test}
use Rattle.poller.specs.declared.Poller.{Poller}
use Rattle.poll_laws.specs.Ratio.{requests_after, passes_within}

-- The slow test starts the fast requests anew where it passes, and else leaves them.
pub slow_requests : (p : Poller) (t : ℕ) → (slow_of p t).poller.requests ≡ pick (slow_passes p t) 0 p.requests
unfolding issue_of end_of
slow_requests p t =
    cases _ (slow_passes p t)
    (λ e. cases _ (found (nextPid p.slow) && p.link.connected)
    (λ f. rw (slow_sent p t e f, e))
    (λ f. rw (slow_unsent p t e f, e)))
    (λ e. rw (slow_not p t e, e))

-- In a round that began with a fast PID it goes by the ratio.
ratio_test : (p : Poller) (t : ℕ) → (p.settings.mode ≡ 0 → ⊥) → p.round.nofast ≡ false → (slow_of p t).poller.requests ≡ pick (leb p.settings.ratio p.requests) 0 p.requests
unfolding slow_due
ratio_test p t m some = slow_requests p t ∙ rw (ne_eqb p.settings.mode 0 m, some)

-- The three calls of a single round with a fast PID: the fast query, its result, the slow test.
pub next_fast : (p : Poller) (t : ℕ) → p.round.phase ≡ First → found (nextPid p.fast) ≡ true
    → ((next_of p t).poller.round.phase ≡ FastDue) × ((next_of p t).poller.requests ≡ more_of p.requests) × ((next_of p t).poller.settings ≡ p.settings)
    × ((next_of p t).poller.round.nofast ≡ p.round.nofast)
unfolding issue_of
next_fast p t e some = rw (next_in p t e ∙ first_some p t some) (refl, refl, refl, refl)

pub result_fast : (p : Poller) (t : ℕ) (o : Outcome) → p.round.phase ≡ FastDue → (result_of p t o).round.phase ≡ Test
unfolding round_after
result_fast p t o e = rw (result_due_law p t o, e)

-- In Ratio mode, in a round that began with a fast PID, the fast requests rise by one or go to 0.
pub ratio_round : (p : Poller) (t u v : ℕ) (o : Outcome) → p.round.phase ≡ First → found (nextPid p.fast) ≡ true → p.round.nofast ≡ false → (p.settings.mode ≡ 0 → ⊥)
    → (next_of (result_of (next_of p t).poller u o) v).poller.requests ≡ requests_after p.settings.ratio p.requests
ratio_round p t u v o first some began m =
    let q = (next_of p t).poller in
    let r = result_of q u o in
    let a = next_fast p t first some in
    let k = result_untouched q u o in
    let s : r.settings ≡ p.settings = k.settings ∙ a.2 in
    let n : r.requests ≡ more_of p.requests = k.requests ∙ a.1 in
    rw (next_in r v (result_fast q u o a.0), ratio_test r v (λ z. m (sym (ap (λ (x : Settings). x.mode) s) ∙ z)) (k.nofast ∙ a.3 ∙ began), s, n)

soon : (n ratio r : ℕ) → ratio ≤ 4294967295 → ratio ≤ r + suc n → passes_within (suc n) ratio r ≡ true
unfolding passes_within
soon zero ratio r h k = rw (le-leb ratio (more_of r) (omega (arith, more_is r)))
soon (suc n) ratio r h k = cases _ (leb ratio (more_of r))
    (λ e. rw e)
    (λ e. let a = leb-false ratio (more_of r) e in rw e (soon n ratio (more_of r) h (omega (arith, more_is r))))

-- The test passes within max(1, ratio) rounds. A ratio has 32 bits.
pub ratio_passes : (ratio r : ℕ) → ratio ≤ 4294967295 → passes_within (max 1 ratio) ratio r ≡ true
ratio_passes zero r h = soon 0 0 r h (omega arith)
ratio_passes (suc n) r h = let e : max 1 (suc n) ≡ suc n = omega arith in rw e (soon n (suc n) r h (omega arith))
