-- The laws of `Asked`: what `next` asks.
use Rattle.std.specs.Prelude.{true, [], ◌∷◌, ◌++◌, ◌≡◌, refl, ℕ, ◌+◌, ◌%◌, ◌<◌, eqb, length, get_or}
use Rattle.std.proofs.Common.{ap, ◌∙◌}
use Rattle.base.specs.Choice.{cases}
use Rattle.config.specs.declared.Settings.{Settings}
use Rattle.link.specs.Rules.{is_no}
use Rattle.pid_list.specs.Members.{Sound}
use Rattle.pid_list.specs.Robin.{next_some}
use Rattle.pid_list.specs.Rules.{entries, with_index}
use Rattle.plan.specs.Groups.{round_of}
use Rattle.plan.specs.declared.Chunk.{Chunk}
use Rattle.poll_laws.proofs.Ratio.{next_fast, result_fast}
use Rattle.poll_laws.specs.Keeps.{result_untouched}
use Rattle.poll_laws.specs.Single.{slow_lists}
use Rattle.rounds.specs.Result.{result_of}
use Rattle.rounds.specs.declared.Outcome.{Outcome}
use Rattle.plan.specs.Left.{keys_of, take_left, plan_left}
use Rattle.plan.specs.Steps.{padded, chunk_of, left_of, take_of}
use Rattle.poller.specs.Calls.{multi_allowed, begin_of}
use Rattle.poller.specs.Cases.{begin_multi}
use Rattle.rounds.specs.Cases.{slow_sent, first_some, multi_end, multi_some, next_in}
use Rattle.rounds.specs.Next.{issue_of, end_of, slow_passes, slow_of, next_of}
use Rattle.poller.specs.State.{pids_of}
use Rattle.poller.specs.declared.Phase.{Phase}
use Rattle.poller.specs.declared.Phase.TheVariants.{First, Test, Multi}
use Rattle.poller.specs.declared.Poller.{Poller}
use Rattle.rounds.specs.declared.Stepped.{Stepped}
use Rattle.poll_laws.specs.Asked.{Asks, Chunked, finished, asked}

issue_one : (p : Poller) (ph : Phase) (x : ℕ) → Asks (issue_of p ph (chunk_of (x ∷ []))) x (get_or p.counts x 0)
unfolding issue_of pids_of padded
issue_one p ph x = record { step = refl; pids = refl; ecu = refl }

issue_fast : (p : Poller) (ph : Phase) (c : Chunk) → (issue_of p ph c).poller.fast ≡ p.fast
unfolding issue_of
issue_fast p ph c = refl

issue_slow : (p : Poller) (ph : Phase) (c : Chunk) → (issue_of p ph c).poller.slow ≡ p.slow
unfolding issue_of
issue_slow p ph c = refl

module _ (p : Poller) (t : ℕ) where
  -- A single round's first step asks the fast entry at the index, which moves on by one around the end.
  pub asks_fast : p.round.phase ≡ First → Sound p.fast → 0 < p.fast.len
      → Asks (next_of p t) (get_or (entries p.fast) p.fast.index 0) (get_or p.counts (get_or (entries p.fast) p.fast.index 0) 0)
      × ((next_of p t).poller.fast ≡ with_index p.fast ((p.fast.index + 1) % p.fast.len))
  asks_fast first s some =
      let n = next_some p.fast s some in
      let a = next_in p t first ∙ first_some p t (rw n) in
      rw (a, n) (issue_one _ _ _, issue_fast _ _ _)

  -- A passed slow test asks the slow entry at the index, where the connection stands.
  pub slow_asks : slow_passes p t ≡ true → p.link.connected ≡ true → Sound p.slow → 0 < p.slow.len
      → Asks (slow_of p t) (get_or (entries p.slow) p.slow.index 0) (get_or p.counts (get_or (entries p.slow) p.slow.index 0) 0)
      × ((slow_of p t).poller.slow ≡ with_index p.slow ((p.slow.index + 1) % p.slow.len))
  slow_asks due up s some =
      let n = next_some p.slow s some in
      rw (slow_sent p t due (rw (n, up)), n) (issue_one _ _ _, issue_slow _ _ _)

  pub asks_slow : p.round.phase ≡ Test → slow_passes p t ≡ true → p.link.connected ≡ true → Sound p.slow → 0 < p.slow.len
      → Asks (next_of p t) (get_or (entries p.slow) p.slow.index 0) (get_or p.counts (get_or (entries p.slow) p.slow.index 0) 0)
      × ((next_of p t).poller.slow ≡ with_index p.slow ((p.slow.index + 1) % p.slow.len))
  asks_slow test due up s some = rw (next_in p t test) (slow_asks due up s some)

-- A single round moves the fast index by one, whatever the result and the slow test.
pub single_fast : (p : Poller) (t u v : ℕ) (o : Outcome) → p.round.phase ≡ First → Sound p.fast → 0 < p.fast.len
    → (next_of (result_of (next_of p t).poller u o) v).poller.fast ≡ with_index p.fast ((p.fast.index + 1) % p.fast.len)
single_fast p t u v o first s some =
    let q = (next_of p t).poller in
    let r = result_of q u o in
    let n = next_some p.fast s some in
    let a = next_fast p t first (rw n) in
    ap (λ (x : Stepped). x.poller.fast) (next_in r v (result_fast q u o a.0))
    ∙ (slow_lists r v).1
    ∙ (result_untouched q u o).fast
    ∙ (asks_fast p t first s some).1

pub asks_multi : (p : Poller) (t : ℕ) → p.round.phase ≡ Multi → Chunked p (next_of p t)
unfolding issue_of end_of pids_of
asks_multi p t e =
    let l = take_left p.plan in
    let a = next_in p t e in
    cases _ (eqb (take_of p.plan).chunk.count 0)
    (λ f. rw (a, multi_end p f) (finished refl (rw f at l)))
    (λ f. rw (a, multi_some p f) (asked refl (rw f at l) refl))

-- A multi round begins with the groups of document 01, from fast then slow.
pub begin_groups : (p : Poller) (s : Settings) → p.link.connected ≡ true
    → multi_allowed s.multi (is_no p.link.features.multi) ≡ true → length p.fast.pids ≡ 256 → length p.slow.pids ≡ 256
    → ((begin_of p s).round.phase ≡ Multi)
    × (left_of (begin_of p s).plan ≡ round_of (keys_of p.counts p.link.known) s.maxpids (entries p.fast ++ entries p.slow))
begin_groups p s up on f g =
    rw (begin_multi p s up on) (refl, plan_left p.fast p.slow p.counts p.link.known s.maxpids f g)
