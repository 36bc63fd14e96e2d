-- `history_said::digit` meets its contract.
use Rattle.history_said.specs.Texts.{digit_of}
use Rattle.history_said.proofs.digit.Goals as goal

pub returns-in-Fast : goal.returns-in-Fast
unfolding digit_of
returns-in-Fast c = rw c.in-Fast.is

pub returns-in-Slow : goal.returns-in-Slow
unfolding digit_of
returns-in-Slow c = rw c.in-Slow.is
