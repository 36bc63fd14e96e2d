-- Claim 1, proved.
use Rattle.std.specs.Prelude.{false, List, [], ◌≡◌, refl, ℕ, length}
use Rattle.std.proofs.Common.{ap, sym, subst, ◌∙◌, arith}
use Rattle.config.specs.declared.Profiles.{Profiles}
use Rattle.config.specs.declared.Settings.{Settings}
use Rattle.control.specs.Speed.{Agree}
use Rattle.control_line.specs.Ring.{waiting}
use Rattle.manager.specs.declared.Manager.{Manager}
use Rattle.passes.specs.Sweep.{speed_at}
use Rattle.pid_list.specs.Rules.{entries}
use Rattle.rounds.specs.declared.Outcome.{Outcome}
use Rattle.obd2.specs.Call as calls
use Rattle.obd2.specs.Call.{Call, next, result, Calls, more}
use Rattle.obd2.specs.Done.{done_of}
use Rattle.obd2.specs.History.{start_of, step, run}
use Rattle.obd2.specs.Keeps.{step_leaves}
use Rattle.obd2.specs.Refusals.{round_open}
use Rattle.obd2.specs.declared.State.{State}
use Rattle.agreement.specs.Agreed.{agreed_settled}
use Rattle.agreement.specs.Claim.{Reading, OfRound, none, asks, tells, taking, taken_all, box_after, read_after, AgreementAfter, most_calls, RoundEnds, Claim}
use Rattle.agreement.proofs.Good.{Good, run_good, start_good}
use Rattle.agreement.proofs.ReadOff.{box_read}
use Rattle.agreement.proofs.Settles.{ends, few_left, takes_fit, take_all}

-- A round's calls are ones that a caller can make, and they leave the manager.
pub round_calls : {ds : List Call} → OfRound ds → Calls ds
round_calls none = calls.none
round_calls (asks h) = more tt (round_calls h)
round_calls (tells h) = more tt (round_calls h)

round_manager : {ds : List Call} (s : State) → OfRound ds → (run s ds).manager ≡ s.manager
unfolding run done_of
round_manager s none = refl
round_manager s (asks {t} h) = round_manager (step s (next t)).state h ∙ step_leaves s (next t) (λ (x : State). x.manager) (λ e. refl)
round_manager s (tells {t} {o} h) = round_manager (step s (result t o)).state h ∙ step_leaves s (result t o) (λ (x : State). x.manager) (λ e. refl)

module _ (t : ℕ) (st : Settings) (ps : Profiles) (cs : List Call) (fit : Calls cs) where
  pub box_good : Good (box_after t st ps cs)
  box_good = run_good cs (start_of t st ps).state fit (start_good t st ps)

  module _ (ds : List Call) (of_round : OfRound ds) (closed : round_open (run (box_after t st ps cs) ds) ≡ false) where
    abbrev ended : State
    ended = run (box_after t st ps cs) ds

    ended_good : Good ended
    ended_good = run_good ds (box_after t st ps cs) (round_calls of_round) box_good

    -- The messages taken: none waits, the manager is as it was, and no round is open.
    pub all_taken : let s = taken_all ended in (waiting s.line ≡ []) × (s.manager ≡ ended.manager) × (round_open s ≡ false)
    all_taken = take_all ended.time ended_good.timely (waiting ended.line) ended refl closed refl

    agreement_after : AgreementAfter t st ps cs ds
    agreement_after =
        let g = run_good (taking ended) ended (takes_fit ended) ended_good in
        let m : (taken_all ended).manager ≡ (read_after t st ps cs).manager
        = all_taken.1 ∙ round_manager (box_after t st ps cs) of_round ∙ sym (ap (λ (r : Reading). r.manager) (box_read t st ps cs)) in (
          all_taken.0,
          subst (λ (x : Manager). Agree (entries (taken_all ended).poller.fast) (entries (taken_all ended).poller.slow) (λ q. speed_at x.table q)) m
              (agreed_settled _ _ _ _ g.kept.0 all_taken.0),
        )

  rounds_end_after : (os : List Outcome) → length os ≡ most_calls → RoundEnds (box_after t st ps cs) os
  rounds_end_after os n =
      let s = box_after t st ps cs in
      let few = few_left s box_good in
      let e = ends os s box_good.timely (omega arith) in
      let k = e.1 in
      record { of_round = e.0; few = omega arith; closed = e.2 }

-- CLAIM 1 holds.
pub claim : Claim
claim = record {
  agreement = λ t st ps cs ds fit. agreement_after t st ps cs fit ds;
  rounds_end = rounds_end_after;
}
