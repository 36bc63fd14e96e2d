-- `writing::byte` meets its contract.
use Rattle.writing.specs.Fill.{wrote_one, wrote_past}
use Rattle.writing.proofs.byte.Goals as goal

pub returns-then-at-out : goal.returns-then-at-out
returns-then-at-out c = wrote_one _ _ _ c.if-at-out.true

pub returns : goal.returns
returns c = wrote_past _ _ _ c.if-at-out.false
