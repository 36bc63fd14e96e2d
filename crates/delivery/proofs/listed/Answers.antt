use Rattle.std.proofs.Common.{rules}
use Rattle.delivery.specs.Rules.{listed_of}
use Rattle.delivery.proofs.listed.Goals as goal

pub returns : goal.returns
unfolding listed_of
returns c = search rules
