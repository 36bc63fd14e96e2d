use Rattle.rounds.specs.Result.{round_after}
use Rattle.rounds.proofs.result.round_after.Goals as goal

pub returns : goal.returns
unfolding round_after
returns c = rw (c.no_query-none.ensures, c.phase_after-phase.ensures, c.ends-over.ensures)
