-- The control line: document 01, "Control messages wait in 1,024 places, reused."
use Rattle.std.specs.Prelude.{None, Some, List, [], ◌∷◌, ◌≡◌, ℕ, zero, suc, ◌+◌, ◌-◌, ◌%◌, ◌≤◌, ltb, eqb, length, get_or, set, replicate}
use Rattle.base.specs.Choice.{pick}
use Rattle.config.specs.declared.PidPriority.TheVariants.{Fast}
use Rattle.control.specs.declared.DongleMessage.{DongleMessage}
use Rattle.control.specs.declared.DongleMessage.TheVariants.{SetPidPriority}
use Rattle.control_line.specs.declared.ControlLine.{ControlLine}
use Rattle.control_line.specs.declared.Shorter.{Shorter}

-- What stands in a place that no message was written to.
abbrev pub unused : DongleMessage
unused = SetPidPriority 0 Fast

unfoldable pub empty_line : ControlLine
empty_line = record { slots = replicate 1024 unused; head = 0; count = 0 }

-- A line as the box holds it: all its places, and no more messages than places.
pub record Sound (l : ControlLine) : Type 0 where
  pub whole : length l.slots ≡ 1024
  pub within : l.count ≤ 1024

unfoldable pub free_of : ℕ → ℕ
free_of count = pick (ltb count 1024) (1024 - count) 0

unfoldable pub push_of : ControlLine → DongleMessage → ControlLine
push_of l m =
    pick (ltb l.count 1024)
    (record { slots = set l.slots ((l.head + l.count) % 1024) m; head = l.head; count = l.count + 1 })
    l

unfoldable pub push_all_of : ControlLine → List DongleMessage → ControlLine
push_all_of l [] = l
push_all_of l (m ∷ ms) = push_all_of (push_of l m) ms

unfoldable pub take_of : ControlLine → Shorter
take_of l =
    pick (eqb l.count 0)
    (record { line = l; taken = None })
    (record {
      line = record { slots = l.slots; head = (l.head % 1024 + 1) % 1024; count = l.count - 1 };
      taken = Some (get_or l.slots (l.head % 1024) unused);
    })

-- So many messages from a place on, which grows unreduced.
unfoldable pub from : List DongleMessage → ℕ → ℕ → List DongleMessage
from slots at zero = []
from slots at (suc n) = get_or slots (at % 1024) unused ∷ from slots (suc at) n

-- THE MESSAGES THAT WAIT, in the order in which they are taken.
unfoldable pub waiting : ControlLine → List DongleMessage
waiting l = from l.slots l.head l.count
