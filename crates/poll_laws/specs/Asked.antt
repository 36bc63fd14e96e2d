-- What `next` asks: in a single round the entry at the index, in a multi round the first of the queries left.
use Rattle.std.specs.Prelude.{[], ◌∷◌, ◌≡◌, ℕ, get_or}
use Rattle.plan.specs.Steps.{left_of}
use Rattle.poller.specs.State.{pids_of}
use Rattle.poller.specs.declared.Poller.{Poller}
use Rattle.rounds.specs.declared.Step.TheVariants.{Ask, End}
use Rattle.rounds.specs.declared.Stepped.{Stepped}

-- A query for the PID x, with the ECU count kept for it, is now due.
pub record Asks (r : Stepped) (x count : ℕ) : Type 0 where
  pub step : r.step ≡ Ask
  pub pids : pids_of r.poller.round.due ≡ x ∷ []
  pub ecu : r.poller.round.due.ecu ≡ count

-- A multi round's step asks the first of the queries left, with the ECU count kept for its first PID; it ends where none is left.
pub data Chunked (p : Poller) (r : Stepped) : Type 0 where
  finished : r.step ≡ End p.round.issued → left_of p.plan ≡ [] → Chunked p r
  asked : r.step ≡ Ask → left_of p.plan ≡ pids_of r.poller.round.due ∷ left_of r.poller.plan
      → r.poller.round.due.ecu ≡ get_or p.counts (get_or r.poller.round.due.pids 0 0) 0 → Chunked p r
