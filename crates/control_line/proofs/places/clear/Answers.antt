use Rattle.control_line.specs.Rows.{line_empty}
use Rattle.control_line.proofs.places.clear.Goals as goal

-- src/places.rt:34:1
pub returns : goal.returns
returns c = rw c.unused.ensures line_empty
