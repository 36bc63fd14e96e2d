-- What each event, and each part of maintenance, makes of a PID's entry: document 01, "PID table (manager)".
use Rattle.std.specs.Prelude.{None, Option, Some, Bool, true, false, not, ◌&&◌, ℕ, ◌-◌, ltb, leb, eqb}
use Rattle.base.specs.Choice.{pick}
use Rattle.base.specs.Count.{more_of}
use Rattle.config.specs.declared.PidPriority.{PidPriority}
use Rattle.config.specs.declared.PidPriority.TheVariants.{Fast, Slow}
use Rattle.control.specs.Speed.{Speed, untracked, speed_of}
use Rattle.pid_table.specs.declared.PidInfo.{PidInfo}

-- A PID that is not in the table.
abbrev pub nobody : PidInfo
nobody = record { tracked = false; priority = Fast; pinned = false; waiter = None; consumed = None; count = 0 }

-- Setters, since antt has no record update.
abbrev pub with_priority : PidInfo → PidPriority → PidInfo
with_priority i x = record { tracked = i.tracked; priority = x; pinned = i.pinned; waiter = i.waiter; consumed = i.consumed; count = i.count }

abbrev pub with_pin : PidInfo → Bool → PidInfo
with_pin i x = record { tracked = i.tracked; priority = i.priority; pinned = x; waiter = i.waiter; consumed = i.consumed; count = i.count }

abbrev pub with_waiter : PidInfo → ℕ → PidInfo
with_waiter i now = record { tracked = i.tracked; priority = i.priority; pinned = i.pinned; waiter = Some now; consumed = i.consumed; count = i.count }

abbrev pub with_consumed : PidInfo → ℕ → ℕ → PidInfo
with_consumed i now n = record { tracked = i.tracked; priority = i.priority; pinned = i.pinned; waiter = i.waiter; consumed = Some now; count = n }

abbrev pub with_count : PidInfo → ℕ → PidInfo
with_count i n = record { tracked = i.tracked; priority = i.priority; pinned = i.pinned; waiter = i.waiter; consumed = i.consumed; count = n }

unfoldable pub is_fast : PidPriority → Bool
is_fast Fast = true
is_fast Slow = false

-- How the poller polls a PID with this entry.
unfoldable pub speed : PidInfo → Speed
speed i = pick i.tracked (speed_of i.priority) untracked

-- Slow is raised to Fast where the test holds; Fast is never lowered.
abbrev pub promoted_if : Bool → PidPriority → PidPriority
promoted_if test p = pick test Fast p

-- Waiting: the waiter time is now. Unknown: tracked Fast. Slow in Interval mode: promoted.
unfoldable pub waiting_of : ℕ → ℕ → PidInfo → PidInfo
waiting_of mode now i =
    pick i.tracked
    (with_waiter (with_priority i (promoted_if (eqb mode 0) i.priority)) now)
    (record { tracked = true; priority = Fast; pinned = false; waiter = Some now; consumed = None; count = 0 })

-- Consumed promotes in Ratio mode, at a wait of the threshold or more.
unfoldable pub promotes_of : ℕ → ℕ → Option ℕ → Bool
promotes_of mode threshold None = false
promotes_of mode threshold (Some wait) = not (eqb mode 0) && leb threshold wait

-- Consumed: known PIDs only are marked and counted.
unfoldable pub consumed_of : Bool → ℕ → PidInfo → PidInfo
consumed_of promotes now i =
    pick i.tracked
    (with_consumed (with_priority i (promoted_if promotes i.priority)) now (more_of i.count))
    i

-- Registering the profiles: unwanted PIDs lose their pin; new ones are tracked pinned, consumed now.
unfoldable pub registered_of : Option PidPriority → ℕ → PidInfo → PidInfo
registered_of None now i = with_pin i false
registered_of (Some p) now i =
    pick i.tracked
    (with_pin (with_priority i (promoted_if (is_fast p) i.priority)) true)
    (record { tracked = true; priority = p; pinned = true; waiter = None; consumed = Some now; count = 0 })

-- Absent, or strictly past the limit.
unfoldable pub past_of : Option ℕ → ℕ → ℕ → Bool
past_of None limit now = true
past_of (Some t) limit now = ltb limit (now - t)

-- Maintenance concerns the unpinned only.
unfoldable pub loose_of : PidInfo → Bool
loose_of i = i.tracked && not i.pinned

-- Remove if each time is absent or strictly past the removal limit.
unfoldable pub idle_of : ℕ → ℕ → PidInfo → Bool
idle_of limit now i = loose_of i && (past_of i.waiter limit now && past_of i.consumed limit now)

unfoldable pub removed_of : ℕ → ℕ → PidInfo → PidInfo
removed_of limit now i = pick (idle_of limit now i) nobody i

-- Else demote Fast if the waiter time is absent or strictly past the demotion limit.
unfoldable pub demotes_of : ℕ → ℕ → ℕ → PidInfo → Bool
demotes_of limit removal now i =
    not (idle_of removal now i) && (loose_of i && (is_fast i.priority && past_of i.waiter limit now))

unfoldable pub demoted_of : ℕ → ℕ → ℕ → PidInfo → PidInfo
demoted_of limit removal now i = pick (demotes_of limit removal now i) (with_priority i Slow) i

-- After the report, counts are cleared.
unfoldable pub cleared_of : PidInfo → PidInfo
cleared_of i = with_count i 0
