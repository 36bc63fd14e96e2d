use mathlib.Core.Path.{◌≡◌}
use Rattle.control_line.specs.Rows.{line_of}
use Rattle.control_line.specs.Ring.{push_all_of}
use lib.ListN.{drop}
use Rattle.control_line.proofs.places.push_all.Given as goal

abbrev pub invariant-loop-message : goal.invariant-loop-message
invariant-loop-message l =
    push_all_of (line_of l.rows l.ends) (drop l.message-index l.message-items) ≡ push_all_of (line_of l.initial.rows l.initial.ends) l.message-items
