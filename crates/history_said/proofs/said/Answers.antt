-- `history_said::said` meets its contract.
use mathlib.Core.Path.{sym}
use Rattle.history_said.specs.Texts.{said_text}
use Rattle.history_said.proofs.said.Goals as goal

pub returns-in-Err : goal.returns-in-Err
unfolding said_text
returns-in-Err g c = λ x. rw (c.in-Err.is, sym c.number.ensures, sym c.from.ensures) c.numbered.ensures

pub returns-in-Ok : goal.returns-in-Ok
unfolding said_text
returns-in-Ok g c = λ x. rw c.in-Ok.is (c.accepted.ensures x)
