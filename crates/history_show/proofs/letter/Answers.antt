-- `history_show::letter` meets its contract.
use Rattle.history_show.specs.Texts.{letter_of}
use Rattle.history_show.proofs.letter.Goals as goal

pub returns-in-Fast : goal.returns-in-Fast
unfolding letter_of
returns-in-Fast c = rw c.in-Fast.is

pub returns-in-Slow : goal.returns-in-Slow
unfolding letter_of
returns-in-Slow c = rw c.in-Slow.is
