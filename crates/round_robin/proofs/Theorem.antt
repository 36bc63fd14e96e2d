-- The proof of the claim on rounds.
use Rattle.std.specs.Prelude.{Bool, true, false, List, [], ◌∷◌, map, ◌≡◌, refl, ℕ, ◌*◌, ◌<◌, length}
use Rattle.std.proofs.Common.{ap, sym, ◌∙◌, arith, eq-eqb, ne_eqb}
use Rattle.base.specs.Choice.{false_true}
use Rattle.base.specs.Times.{times}
use Rattle.config.specs.declared.Profiles.{Profiles}
use Rattle.config.specs.declared.Settings.{Settings}
use Rattle.pid_list.specs.Members.{Sound, sound_length}
use Rattle.pid_list.specs.Rules.{entries}
use Rattle.pid_list.specs.declared.PidList.{PidList}
use Rattle.poll_laws.specs.Lists.{Both}
use Rattle.poller.specs.Calls.{none_in}
use Rattle.obd2.specs.Call.{Call, FitSettings}
use Rattle.obd2.specs.History.{start_of, happened}
use Rattle.obd2.specs.Refusals.{round_open}
use Rattle.obd2.specs.declared.State.{State}
use Rattle.round_robin.specs.Claim.{Seen, seen_at, seen_over, Asked, Lasting, Claim, sofar, there, read, ClaimSince}
use Rattle.round_robin.specs.Marks.{mark, open_over, rounds}
use Rattle.round_robin.proofs.Covers.{Live, fast_covers, slow_covers}
use Rattle.round_robin.proofs.Machine.{idle, stretch, Ahead}
use Rattle.round_robin.proofs.Reading.{shut, start_seen, seen_run, start_open, open_run}
use Rattle.round_robin.proofs.Steps.{at_closed, box_runs}

-- A list in which something stands has entries.
some_there : (q : ℕ) (xs : List ℕ) → 0 < times q xs → 0 < length xs
unfolding times
some_there q [] h = absurd (omega arith)
some_there q (x ∷ xs) h = omega arith

live : (l : PidList) → Sound l → 0 < length (entries l) → Live l
live l s h = record { sound = s; some = omega (arith, sound_length l s) }

-- Without a fast PID every round passes the slow test.
every_round : (st : Settings) (n : ℕ) → n * stretch st true ≡ n
every_round st n = omega arith

module _ (s : State) (lists : Both s.poller.fast s.poller.slow) (fits : FitSettings s.settings) (closed : round_open s ≡ false)
    (cs : List Call) (l : Lasting (seen_at s) (happened s cs)) where
  -- The rounds of the calls ..
  runs : (nofast : Bool) → none_in s.poller.fast ≡ nofast → Ahead s.settings nofast idle s.poller.fast s.poller.slow s.poller.requests (map mark (happened s cs))
  runs nofast e =
      box_runs cs s s.settings nofast refl l.up idle
      (record {
        within = rw (shut s.poller.round.phase closed) at_closed;
        own = λ z. false_true (sym closed ∙ z);
        standing = record { sound = lists.fast_sound; empty = e };
      })
      l.steady

  -- .. with a fast PID, and without one.
  some_fast : Live s.poller.fast → none_in s.poller.fast ≡ false
  some_fast v = let n = v.some in ne_eqb s.poller.fast.len 0 (λ e. omega arith)

  no_fast : length (entries s.poller.fast) ≡ 0 → none_in s.poller.fast ≡ true
  no_fast e = eq-eqb s.poller.fast.len 0 (sym (sound_length s.poller.fast lists.fast_sound) ∙ e)

  proved : Asked (entries s.poller.fast) (entries s.poller.slow) s.settings (rounds (map mark (happened s cs)))
  proved = record {
    fast_asked = λ k q h some.
        let v = live s.poller.fast lists.fast_sound (some_there q _ some) in
        fast_covers s.settings _ _ v s.poller.requests _ (runs false (some_fast v)) k q h some;
    slow_asked = λ m fast k q h some.
        let v = live s.poller.fast lists.fast_sound fast in
        let w = live s.poller.slow lists.slow_sound (some_there q _ some) in
        slow_covers s.settings false _ _ s.poller.requests _ (runs false (some_fast v)) k q w m fits h some;
    only_slow_asked = λ m none k q h some.
        let w = live s.poller.slow lists.slow_sound (some_there q _ some) in
        let n = length (entries s.poller.slow) in
        rw (every_round s.settings n) at (slow_covers s.settings true _ _ s.poller.requests _ (runs true (no_fast none)) k q w m fits (rw (every_round s.settings n) h) some);
  }

pub theorem : Claim
theorem = proved

-- What is read since the start is so of the box.
module _ (t : ℕ) (st : Settings) (ps : Profiles) (before : List Call) where
  pub read_is : read t st ps before ≡ seen_at (there t st ps before)
  read_is = ap (λ (k : Seen). seen_over k (sofar t st ps before)) (sym (start_seen t st ps)) ∙ seen_run before (start_of t st ps).state

  pub open_is : open_over false (map mark (sofar t st ps before)) ≡ round_open (there t st ps before)
  open_is = ap (λ (b : Bool). open_over b (map mark (sofar t st ps before))) (sym (start_open t st ps)) ∙ open_run before (start_of t st ps).state

  pub theorem_since : ClaimSince t st ps before
  theorem_since = rw (open_is, read_is) (theorem (there t st ps before))
