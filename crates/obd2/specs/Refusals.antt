-- The refusals of the box: document 01's table, call by call. Each call's rows stand in the table's order, so that
-- the first whose condition holds has the lowest number. Where a component alone decides, its rows stand with its rules.
use Rattle.std.specs.Prelude.{ℕ, Bool, Option, not, ◌&&◌, ◌||◌, [], ◌∷◌, ◌++◌, length, nat_lt}
use Rattle.base.specs.Each.{some_of}
use Rattle.base.specs.Refusal.{Rows, first_of}
use Rattle.cache.specs.Rules.{ask_rows}
use Rattle.config.specs.declared.Profiles.{Profiles}
use Rattle.config.specs.declared.Settings.{Settings}
use Rattle.control_line.specs.Ring.{free_of}
use Rattle.delivery.specs.Rules.{response_rows}
use Rattle.desk.specs.Rules.{register_rows}
use Rattle.manager.specs.declared.Answer.{Answer as Managed}
use Rattle.poller.specs.State.{open_of, due_of}
use Rattle.profile_check.specs.Check.{bad_profiles, unknown_mode}
use Rattle.reply.specs.Rules.{present, reply_of, within_of}
use Rattle.reply.specs.declared.Reply.{Reply}
use Rattle.report.specs.Metrics.{refused_of}
use Rattle.waits.specs.Rules.{collect_rows, give_up_rows}
use Rattle.obd2.specs.Call.{Call, manager, cache, settings, take_control, link, round, ManagerCall, Register, Leave, Respond, Changed, Waiting, Consumed, Tick, CacheCall, Ask, Collect, GiveUp, LinkCall, Connect, Fail, Check, RoundCall, Begin, Next, Result, time_of}
use Rattle.obd2.specs.Done.{ranges, ask_step, manager_by, managing}
use Rattle.obd2.specs.declared.State.{State}

-- 1: "time below the last accepted one, or above 16,777,215,999"
abbrev pub latest : ℕ
latest = 16777215999

abbrev pub bad_time : ℕ → ℕ → Bool
bad_time last t = nat_lt t last || nat_lt latest t

-- 15: "the call's control messages exceed the free places"
abbrev pub exceeds : ℕ → ℕ → Bool
exceeds waiting sent = nat_lt (free_of waiting) sent

-- 3, of a range reply that a connection brings: an absent one is over no limit
unfoldable pub over_range : Option Reply → Bool
over_range r = present r && not (within_of (reply_of r))

unfoldable pub start_refusal : ℕ → Settings → Profiles → ℕ
start_refusal t st ps = first_of ((1, nat_lt latest t) ∷ (2, unknown_mode st.mode || bad_profiles ps) ∷ [])

module _ (s : State) where
  -- 12 and 13: a round is open; a result is due.
  abbrev pub round_open : Bool
  round_open = open_of s.poller.round.phase

  abbrev pub result_due : Bool
  result_due = due_of s.poller.round.phase

  unfoldable pub crowded : Managed → Bool
  crowded m = exceeds s.line.count m.outbox.count

  unfoldable pub manager_rows : ManagerCall → Rows
  manager_rows Register = register_rows s.desk
  manager_rows (Leave c) = []
  manager_rows (Respond r) = response_rows r
  manager_rows (Changed ps) = (2, bad_profiles ps) ∷ []
  manager_rows (Waiting p) = []
  manager_rows (Consumed p w) = (4, refused_of s.manager.metrics w) ∷ []
  manager_rows Tick = []

  unfoldable pub cache_rows : CacheCall → Rows
  cache_rows (Ask c cmd area) = ask_rows s.desk c (ranges s) (ask_step s cmd) (length area)
  cache_rows (Collect c area) = collect_rows s.desk c (length area)
  cache_rows (GiveUp c) = give_up_rows s.desk c

  abbrev pub closed_rows : Rows
  closed_rows = (12, round_open) ∷ []

  unfoldable pub link_rows : LinkCall → Rows
  link_rows (Connect x) = (3, some_of over_range x.ranges) ∷ closed_rows
  link_rows Fail = closed_rows
  link_rows Check = closed_rows

  unfoldable pub round_rows : RoundCall → Rows
  round_rows Begin = closed_rows
  round_rows Next = (13, not round_open || result_due) ∷ []
  round_rows (Result o) = (13, not result_due) ∷ []

  -- A call's own rows, behind a manager's call's the room on the line.
  unfoldable pub rows_of : Call → Rows
  rows_of (manager t c) = manager_rows c ++ ((15, crowded (managing s t (manager_by s c))) ∷ [])
  rows_of (cache t c) = cache_rows c
  rows_of (settings t st) = (2, unknown_mode st.mode) ∷ []
  rows_of (take_control t) = closed_rows
  rows_of (link t c) = link_rows c
  rows_of (round t c) = round_rows c

  -- The time's row stands in front of them.
  unfoldable pub refusal_of : Call → ℕ
  refusal_of c = first_of ((1, bad_time s.time (time_of c)) ∷ rows_of c)

  -- What a call whose time is taken is refused for.
  unfoldable pub row_refusal : Call → ℕ
  row_refusal c = first_of (rows_of c)
