use mathlib.Core.Path.{ap, ◌∙◌}
use lib.ListN.{length}
use Rattle.clients.specs.Seats.{blank_length}
use Rattle.desk.specs.Core.{start_desk_law}
use Rattle.desk.proofs.rest.start.Goals as goal

pub returns : goal.returns
returns c =
    let e = c.blank-2.ensures in
    record {
      marks_len = ap length e ∙ blank_length;
      result_after = rw (e, c.blank.ensures, c.vacant-vacant.ensures) start_desk_law;
    }
