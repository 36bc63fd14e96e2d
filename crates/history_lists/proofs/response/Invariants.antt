use mathlib.Core.Path.{◌≡◌}
use Rattle.history_items.specs.Items.{items_of, items_left}
use Rattle.history_lists.specs.Lists.{response_from, response_of}
use Rattle.history_lists.proofs.response.Given as goal

abbrev pub invariant-loop-token : goal.invariant-loop-token
invariant-loop-token l = response_of (items_of 32 l.s) ≡ response_from l.response (items_left l.token-iterator)
