-- `history_said::held` meets its contract.
use Rattle.history_said.specs.Texts.{held_of}
use Rattle.reply.specs.Rules.{size_of, total_of, lengths_of}
use native.Mathlib.Omega.{arith}
use Rattle.history_said.proofs.held.Goals as goal

pub returns-then-n-room : goal.returns-then-n-room
unfolding held_of size_of total_of lengths_of
returns-then-n-room c = omega (arith, c.size-n.ensures)

pub returns-else-n-room : goal.returns-else-n-room
unfolding held_of size_of total_of lengths_of
returns-else-n-room c = omega (arith, c.size-n.ensures)
