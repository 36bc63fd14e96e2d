-- `text::is` meets its contract.
use Rattle.std.proofs.Common.{◌∙◌}
use Rattle.text.specs.Cut.{same_is}
use Rattle.text.proofs.is.Goals as goal

pub returns : goal.returns
returns c = c.eq.ensures ∙ same_is _ _
