use Rattle.control_line.specs.Rows.{line_of}
use Rattle.manager.specs.Rows.{manager_of}
use Rattle.by_value.proofs.state_of.Goals as goal

pub returns : goal.returns
unfolding manager_of line_of
returns c = rw (c.poller_of.ensures, c.desk_of.ensures, c.unpack_all.ensures, c.unpack_all-2.ensures)
