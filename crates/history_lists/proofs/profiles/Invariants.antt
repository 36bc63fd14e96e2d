use mathlib.Core.Path.{◌≡◌}
use Rattle.history_items.specs.Items.{items_of, items_left}
use Rattle.history_lists.specs.Lists.{profiles_from, profiles_of}
use Rattle.history_lists.proofs.profiles.Given as goal

abbrev pub invariant-loop-token : goal.invariant-loop-token
invariant-loop-token l = profiles_of (items_of 32 l.s) ≡ profiles_from l.profiles (items_left l.token-iterator)
