-- The control line's places as rows of numbers: what they mean.
use Rattle.std.specs.Prelude.{Some, List, [], ◌∷◌, map, ◌≡◌, refl, false, ℕ, ◌%◌, eqb, get_or, replicate}
use Rattle.std.proofs.Math.ListN.{get_or-map}
use Rattle.control_line.specs.Ring.{unused, empty_line, take_of}
use Rattle.base.specs.Choice.{pick}
use Rattle.base.specs.Each.{map_replicate}
use Rattle.config.specs.declared.PidPriority.TheVariants.{Fast, Slow}
use Rattle.control.specs.declared.DongleMessage.{DongleMessage}
use Rattle.control.specs.declared.DongleMessage.TheVariants.{SetPidPriority, RemovePid}
use Rattle.control_line.specs.declared.ControlLine.{ControlLine}
use Rattle.control_line.specs.declared.places.Ends.{Ends}

abbrev pub row_of : DongleMessage → List ℕ
row_of (SetPidPriority p Fast) = 0 ∷ p ∷ []
row_of (SetPidPriority p Slow) = 1 ∷ p ∷ []
row_of (RemovePid p) = 2 ∷ p ∷ []

abbrev pub message_in : ℕ → ℕ → DongleMessage
message_in k p = pick (eqb k 0) (SetPidPriority p Fast) (pick (eqb k 1) (SetPidPriority p Slow) (RemovePid p))

abbrev pub slot_at : List ℕ → DongleMessage
slot_at row = message_in (get_or row 0 0) (get_or row 1 0)

-- What all places have.
abbrev pub slots_of : List (List ℕ) → List DongleMessage
slots_of rows = map slot_at rows

-- THE CONTROL LINE that the lent places and the two ends are.
unfoldable pub line_of : List (List ℕ) → Ends → ControlLine
line_of rows e = record { slots = slots_of rows; head = e.head; count = e.count }

-- The places of a line that has had no message yet.
unfoldable pub unused_rows : List (List ℕ)
unused_rows = replicate 1024 (0 ∷ 0 ∷ [])

pub line_empty : line_of unused_rows (record { head = 0; count = 0 }) ≡ empty_line
unfolding line_of unused_rows empty_line
line_empty = rw (map_replicate slot_at 1024 (0 ∷ 0 ∷ []))

pub read_back : (m : DongleMessage) → slot_at (row_of m) ≡ m
read_back (SetPidPriority p Fast) = refl
read_back (SetPidPriority p Slow) = refl
read_back (RemovePid p) = refl

pub read_at : (rows : List (List ℕ)) (i : ℕ) → get_or (map slot_at rows) i unused ≡ slot_at (get_or rows i [])
read_at rows i = get_or-map slot_at rows i []

pub take_said : (rows : List (List ℕ)) (e : Ends) → eqb e.count 0 ≡ false → (take_of (line_of rows e)).taken ≡ Some (message_in (get_or (get_or rows (e.head % 1024) []) 0 0) (get_or (get_or rows (e.head % 1024) []) 1 0))
unfolding take_of line_of
take_said rows e h = rw (h, read_at rows (e.head % 1024))

-- Rows that were made of messages are those messages.
pub all_back : (ms : List DongleMessage) → slots_of (map row_of ms) ≡ ms
all_back [] = refl
all_back (m ∷ ms) = rw (read_back m, all_back ms)
