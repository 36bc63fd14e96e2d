-- The line of `show`: history-format.md, "`show` answers `show T FASTINDEX FAST SLOWINDEX SLOW TABLE LINE REVS`".
use Rattle.std.specs.Prelude.{Option, Some, None, ℕ, suc, min, Bool, true, false, List, [], ◌∷◌, ◌++◌, map}
use Rattle.base.specs.Choice.{pick}
use Rattle.base.specs.Letters.{letter, letters}
use Rattle.config.specs.declared.PidPriority.{PidPriority}
use Rattle.config.specs.declared.PidPriority.TheVariants.{Fast, Slow}
use Rattle.control.specs.declared.DongleMessage.{DongleMessage}
use Rattle.control.specs.declared.DongleMessage.TheVariants.{SetPidPriority, RemovePid}
use Rattle.control_line.specs.Ring.{from}
use Rattle.control_line.specs.declared.ControlLine.{ControlLine}
use Rattle.numeral.specs.Decimal.{decimal_text}
use Rattle.obd2.specs.declared.State.{State}
use Rattle.pid_list.specs.Rules.{entries}
use Rattle.pid_list.specs.declared.PidList.{PidList}
use Rattle.pid_table.specs.declared.PidInfo.{PidInfo}
use Rattle.writing_pairs.specs.Pairs.{pid_text}
use Rattle.writing_lists.specs.Parted.{parted, comma_text, pids_text}

-- "`f` or `s` for its speed"
unfoldable pub letter_of : PidPriority → ℕ
letter_of Fast = letter "f"
letter_of Slow = letter "s"

-- "the poller's two lists with their indexes, PIDs parted by commas in list order"
unfoldable pub list_text : PidList → List ℕ
list_text l = letter " " ∷ (decimal_text l.index ++ (letter " " ∷ pids_text (entries l)))

-- "the manager's PIDs, rising, each with `f` or `s` for its speed and `+` where pinned"
unfoldable pub pin_text : Bool → List ℕ
pin_text true = letters "+"
pin_text false = []

unfoldable pub entry_text : ℕ → PidInfo → List ℕ
entry_text p i = pid_text p ++ (letter_of i.priority ∷ pin_text i.pinned)

-- Those of the PIDs from p on.
unfoldable pub tracked_from : ℕ → List PidInfo → List (List ℕ)
tracked_from p [] = []
tracked_from p (i ∷ is) = pick i.tracked (entry_text p i ∷ tracked_from (suc p) is) (tracked_from (suc p) is)

-- What a PID of the table adds to those before it.
unfoldable pub added_text : Bool → ℕ → PidInfo → List ℕ
added_text more p i = pick i.tracked (comma_text more ++ entry_text p i) []

unfoldable pub table_text : List PidInfo → List ℕ
table_text table = letter " " ∷ parted false (tracked_from 0 table)

-- "the waiting control messages in order, `0Cf`, `0Cs`, or `0Cx` for a removal"
unfoldable pub message_text : DongleMessage → List ℕ
message_text (SetPidPriority p s) = pid_text p ++ (letter_of s ∷ [])
message_text (RemovePid p) = pid_text p ++ letters "x"

unfoldable pub line_text : ControlLine → List ℕ
line_text l = letter " " ∷ parted false (map message_text (from l.slots l.head (min l.count 1024)))

-- "the stored revs. `-` where there is nothing"
unfoldable pub revs_text : Option ℕ → List ℕ
revs_text None = letter " " ∷ letters "-"
revs_text (Some v) = letter " " ∷ decimal_text v

-- THE LINE, with its line feed. "the last accepted time" comes first.
unfoldable pub show_text : State → List ℕ
show_text s =
    letters "show "
    ++ (decimal_text s.time
    ++ (list_text s.poller.fast
    ++ (list_text s.poller.slow
    ++ (table_text s.manager.table
    ++ (line_text s.line
    ++ (revs_text s.desk.revs
    ++ letters "\n"))))))
