use Prim.Native.Nat.{◌≤◌}
use mathlib.Core.Path.{◌≡◌}
use Rattle.history_items.specs.Items.{items_of, items_left}
use Rattle.reply.specs.Rules.{empty_reply}
use Rattle.history_replies.specs.Replies.{lines_from}
use Rattle.history_replies.proofs.lines.Given as goal

abbrev pub invariant-loop-line : goal.invariant-loop-line
invariant-loop-line l = (l.fill ≤ 64) × (lines_from empty_reply 0 (items_of 44 l.s) ≡ lines_from l.reply l.fill (items_left l.line-iterator))
