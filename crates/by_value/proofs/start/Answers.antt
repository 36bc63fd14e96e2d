use mathlib.Core.Path.{◌∙◌}
use Rattle.by_value.proofs.start.Goals as goal

pub returns : goal.returns
returns c =
    let e = c.answered_of.ensures in
    let f = c.start-told.ensures in
    record {
      value = e ∙ f.by_index _ _;
      promised_start = rw e (f.by_index_2 _ _);
    }
