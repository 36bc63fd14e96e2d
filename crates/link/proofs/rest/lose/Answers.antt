use Rattle.link.specs.Rules.{no_ranges, loss_of}
use Rattle.link.specs.Ranges.{range_in, ranges_of, blank_ranges}
use Rattle.link.proofs.rest.lose.Goals as goal

-- The flags alone tell that every range is absent: what stands behind them is the other clause's.
pub returns-clause-result_after : goal.returns-clause-result_after
unfolding no_ranges loss_of range_in ranges_of blank_ranges
returns-clause-result_after c = λ known. rw c.blank.ensures
