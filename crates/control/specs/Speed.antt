-- What a control message says of each PID, and when two lists agree with it. The poller's laws and the
-- manager's are both about these names, so that what the manager sends can be held to what the poller lists.
use Rattle.std.specs.Prelude.{List, [], ◌∷◌, ◌++◌, ◌≡◌, refl, ℕ, eqb}
use Rattle.base.specs.Choice.{pick}
use Rattle.base.specs.Times.{times}
use Rattle.config.specs.declared.PidPriority.{PidPriority}
use Rattle.config.specs.declared.PidPriority.TheVariants.{Fast, Slow}
use Rattle.control.specs.declared.DongleMessage.{DongleMessage}
use Rattle.control.specs.declared.DongleMessage.TheVariants.{SetPidPriority, RemovePid}

-- How a PID is polled: from the fast list, from the slow one, or not at all.
pub data Speed : Type 0 where
  fast slow untracked : Speed

abbrev pub in_fast : Speed → ℕ
in_fast fast = 1
in_fast slow = 0
in_fast untracked = 0

abbrev pub in_slow : Speed → ℕ
in_slow fast = 0
in_slow slow = 1
in_slow untracked = 0

abbrev pub speed_of : PidPriority → Speed
speed_of Fast = fast
speed_of Slow = slow

-- The PID that a message names, and the speed that it gives it.
abbrev pub named : DongleMessage → ℕ
named (SetPidPriority p s) = p
named (RemovePid p) = p

abbrev pub given : DongleMessage → Speed
given (SetPidPriority p s) = speed_of s
given (RemovePid p) = untracked

-- The speed of q after a message, and after several, the first first.
unfoldable pub after : DongleMessage → ℕ → Speed → Speed
after m q s = pick (eqb (named m) q) (given m) s

unfoldable pub after_all : List DongleMessage → ℕ → Speed → Speed
after_all [] q s = s
after_all (m ∷ ms) q s = after_all ms q (after m q s)

-- The two lists hold q as often as its speed says: once in its own list, and in no other.
pub record Listed (fasts slows : List ℕ) (q : ℕ) (s : Speed) : Type 0 where
  pub in_fast_law : times q fasts ≡ in_fast s
  pub in_slow_law : times q slows ≡ in_slow s

-- The lists are exactly what the speeds say, no PID twice within or across them.
abbrev pub Agree : List ℕ → List ℕ → (ℕ → Speed) → Type 0
Agree fasts slows speeds = (q : ℕ) → Listed fasts slows q (speeds q)

-- Messages sent one after the other.
pub after_append : (ms ns : List DongleMessage) (q : ℕ) (s : Speed) → after_all (ms ++ ns) q s ≡ after_all ns q (after_all ms q s)
unfolding after_all
after_append [] ns q s = refl
after_append (m ∷ ms) ns q s = after_append ms ns q (after m q s)
