-- `history_said::named` meets its contract.
use Rattle.writing.specs.Added.{added_then}
use Rattle.history_said.proofs.named.Goals as goal

pub returns : goal.returns
returns g c = added_then c.put.ensures c.pair.ensures
