-- 8,192 bytes have room for the line of `show`.
use Rattle.std.specs.Prelude.{◌≡◌, ℕ, zero, suc, ◌+◌, ◌*◌, ◌≤◌, min, Bool, true, false, List, [], ◌∷◌, ◌++◌, length}
use Rattle.std.specs.Prelude.{Option, Some, None, refl}
use Rattle.std.proofs.Common.{arith, length-append, length-take}
use Rattle.base.specs.Choice.{pick}
use Rattle.base.specs.Write.{over}
use Rattle.control.specs.declared.DongleMessage.{DongleMessage}
use Rattle.control.specs.declared.DongleMessage.TheVariants.{SetPidPriority, RemovePid}
use Rattle.control_line.specs.Ring.{from}
use Rattle.control_line.specs.declared.ControlLine.{ControlLine}
use Rattle.manager.specs.Rows.{manager_table}
use Rattle.obd2.specs.Core.{Lent, lent, box_of}
use Rattle.poller.specs.Core.{with_polled}
use Rattle.obd2.specs.declared.State.{State}
use Rattle.obd2.specs.declared.rest.Core.{Core}
use Rattle.pid_list.specs.Laws.{size_le}
use Rattle.pid_list.specs.Rules.{size_of, entries}
use Rattle.pid_list.specs.declared.PidList.{PidList}
use Rattle.pid_table.specs.Rows.{table_length}
use Rattle.pid_table.specs.declared.PidInfo.{PidInfo}
use Rattle.writing.specs.Added.{added, added_fits}
use Rattle.writing.specs.Fill.{fill_of, fill_end, fill_fits, end_fits}
use Rattle.writing.specs.Number.{decimal_short}
use Rattle.writing_lists.specs.Parted.{parted}
use Rattle.writing_pairs.specs.Short.{pid_length}
use Rattle.writing_lists.specs.Short.{comma_short, none_short, pids_short, each_short}
use Rattle.history_show.specs.Texts.{list_text, pin_text, entry_text, tracked_from, table_text, message_text, line_text, revs_text, show_text}

list_short : (l : PidList) → length (list_text l) ≤ 791
unfolding list_text entries
list_short l =
    simp length-append (omega (arith, decimal_short l.index, pids_short (entries l), length-take (size_of l.len) l.pids, size_le l.len))

pin_short : (b : Bool) → length (pin_text b) ≤ 1
unfolding pin_text
pin_short true = omega arith
pin_short false = omega arith

entry_short : (p : ℕ) (i : PidInfo) → length (entry_text p i) ≤ 4
unfolding entry_text
entry_short p i = simp length-append (omega (arith, pid_length p, pin_short i.pinned))

one_short : (b : Bool) (t : List ℕ) (ts : List (List ℕ)) (n : ℕ) → length t ≤ 4 → ((m : Bool) → length (parted m ts) ≤ n)
    → (more : Bool) → length (parted more (pick b (t ∷ ts) ts)) ≤ n + 5
unfolding parted
one_short true t ts n h k more = simp length-append (omega (arith, comma_short more, k true))
one_short false t ts n h k more = omega (arith, k more)

tracked_short : (is : List PidInfo) (p : ℕ) (more : Bool) → length (parted more (tracked_from p is)) ≤ 1 + length is * 5
unfolding tracked_from parted
tracked_short [] p more = omega (arith, none_short more)
tracked_short (i ∷ is) p more =
    omega (arith, one_short i.tracked (entry_text p i) (tracked_from (suc p) is) (1 + length is * 5) (entry_short p i) (tracked_short is (suc p)) more)

message_short : (m : DongleMessage) → length (message_text m) ≤ 3
unfolding message_text
message_short (SetPidPriority p s) = simp length-append (omega (arith, pid_length p))
message_short (RemovePid p) = simp length-append (omega (arith, pid_length p))

from_length : (slots : List DongleMessage) (n at : ℕ) → length (from slots at n) ≡ n
unfolding from
from_length slots zero at = refl
from_length slots (suc n) at = omega (arith, from_length slots n (suc at))

line_short : (l : ControlLine) → length (line_text l) ≤ 4098
unfolding line_text
line_short l =
    let n = min l.count 1024 in
    let ms = from l.slots l.head n in
    omega (arith, each_short message_text 3 message_short ms false, from_length l.slots n l.head)

revs_short : (r : Option ℕ) → length (revs_text r) ≤ 21
unfolding revs_text
revs_short None = omega arith
revs_short (Some v) = omega (arith, decimal_short v)

-- A table has 256 places.
pub show_short : (s : State) → length s.manager.table ≤ 256 → length (show_text s) ≤ 8192
unfolding show_text table_text
show_short s h =
    simp length-append (omega (
      arith,
      decimal_short s.time,
      list_short s.poller.fast,
      list_short s.poller.slow,
      tracked_short s.manager.table 0 false,
      line_short s.line,
      revs_short s.desk.revs,
    ))

-- THE WHOLE LINE is written where there is so much room.
pub show_whole : (s : State) (d : List ℕ) (at : ℕ) → length s.manager.table ≤ 256 → at + 8192 ≤ length d
    → (fill_end d at (show_text s) ≡ at + length (show_text s)) × (fill_of d at (show_text s) ≡ over d at (show_text s))
show_whole s d at h k =
    let n = show_short s h in (end_fits d at (show_text s) (omega arith), fill_fits d at (show_text s) (omega arith))

-- The same behind a text of at most n bytes.
pub show_room : (s : State) (n : ℕ) (d : List ℕ) → length s.manager.table ≤ 256 → length d + 8192 ≤ n → added n d (show_text s) ≡ d ++ show_text s
show_room s n d h k = let m = show_short s h in added_fits n d (show_text s) (omega arith)

-- Lent arrays with these of what is shown.
abbrev pub with_shown : Lent → List (List ℕ) → List (List ℕ) → List (List ℕ) → Lent
with_shown x table slots polled = lent x.replies x.marks table slots (with_polled x.polling polled) x.pids x.rates

-- A table that is lent has so many.
pub lent_table : (x : Lent) (k : Core) → length x.table ≡ 256 → length (box_of x k).manager.table ≤ 256
lent_table x k e = rw (manager_table x.table k.manager, table_length x.table, e) (omega arith)
