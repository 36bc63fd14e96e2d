-- `text::head` meets its contract.
use Rattle.text.specs.Cut.{head_of, place_le}
use lib.Seq.{length-take-le}
use mathlib.Core.Path.{sym}
use Rattle.text.proofs.head.Goals as goal

pub slice_bounds-result-end : goal.slice_bounds-result-end
slice_bounds-result-end c =
    let e = c.until-end.ensures in
    sym (length-take-le _ _ (rw e (place_le _ _)))

pub returns : goal.returns
unfolding head_of
returns c = rw c.until-end.ensures
