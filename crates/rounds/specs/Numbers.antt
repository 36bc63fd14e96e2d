-- Document 01's numbers for a result's kinds, and its values for what a step asks or ends with.
use Rattle.std.specs.Prelude.{ℕ, List, [], ◌∷◌, ◌++◌, slice_index}
use Rattle.poller.specs.State.{pids_of}
use Rattle.poller.specs.declared.Query.{Query}
use Rattle.rounds.specs.declared.Kind.{Kind}
use Rattle.rounds.specs.declared.Step.{Step}

-- A result's kinds: replied, timed out, connection lost.
abbrev pub kind_number : Kind → ℕ
kind_number Kind.Replied = 0
kind_number Kind.TimedOut = 1
kind_number Kind.Lost = 2

-- The values, with q the query that is due: its PIDs and ECU count; a round's request count.
abbrev pub step_values : Step → Query → List ℕ
step_values Step.Ask q = pids_of q ++ (q.ecu ∷ [])
step_values (Step.End k) q = k ∷ []

-- What those come to where these ECU counts are kept and so many queries have been issued: "the ECU count kept then",
-- "queries issued, no other figure".
abbrev pub values_from : List ℕ → ℕ → Step → Query → List ℕ
values_from counts issued Step.Ask q = pids_of q ++ (slice_index counts (slice_index q.pids 0) ∷ [])
values_from counts issued (Step.End k) q = issued ∷ []
