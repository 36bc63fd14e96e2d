-- The manager's calls: document 01, "PID table (manager)". Each does its event, then maintenance if 2,000 or more
-- passed since the last (or the start).
use Rattle.std.specs.Prelude.{Option, Bool, List, [], ◌∷◌, ◌++◌, ℕ, ◌-◌, leb, get_or, set, replicate}
use Rattle.base.specs.Choice.{pick}
use Rattle.control.specs.Outbox.{empty_of, send_all}
use Rattle.control.specs.Told.{told_of}
use Rattle.control.specs.declared.DongleMessage.{DongleMessage}
use Rattle.control.specs.declared.outbox.Outbox.{Outbox}
use Rattle.pid_table.specs.Entry.{nobody, speed, waiting_of, promotes_of, consumed_of}
use Rattle.pid_table.specs.declared.PidInfo.{PidInfo}
use Rattle.passes.specs.Sweep.{through, news, upkeep}
use Rattle.passes.specs.declared.Ledger.{Ledger}
use Rattle.passes.specs.declared.Pass.{Pass}
use Rattle.passes.specs.declared.Pass.TheVariants.{Register, Clear}
use Rattle.passes.specs.declared.Terms.{Terms}
use Rattle.report.specs.Metrics.{no_metrics, noted_of as counted_of}
use Rattle.report.specs.Report.{no_report, report_of}
use Rattle.manager.specs.declared.Manager.{Manager}
use Rattle.manager.specs.declared.Event.{Event}
use Rattle.manager.specs.declared.Event.TheVariants.{ProfilePidsChanged, Waiting, Consumed, Nothing}
use Rattle.manager.specs.declared.Noted.{Noted}
use Rattle.manager.specs.declared.Answer.{Answer}

abbrev pub with_table : Manager → List PidInfo → Manager
with_table m xs = record { table = xs; metrics = m.metrics; last = m.last }

-- The passes over the table that registering is, and maintenance.
abbrev pub registering : List Pass
registering = Register ∷ []

abbrev pub maintenance : List Pass
maintenance = upkeep ++ Clear ∷ []

unfoldable pub due_of : ℕ → ℕ → Bool
due_of last now = leb 2000 (now - last)

-- The report stands between the removals and the clearing of the counts.
unfoldable pub maintain_of : Manager → Outbox → Terms → Answer
maintain_of m o t = record {
  manager = record { table = through t maintenance m.table; metrics = no_metrics; last = t.now };
  outbox = send_all o (news t maintenance m.table);
  report = report_of (through t upkeep m.table) m.metrics (t.now - m.last);
}

unfoldable pub finish_of : Manager → Outbox → Terms → Answer
finish_of m o t = pick (due_of m.last t.now) (maintain_of m o t) (record { manager = m; outbox = o; report = no_report })

-- A table in which nothing is tracked.
unfoldable pub no_table : List PidInfo
no_table = replicate 256 nobody

-- What a list of profiles makes of a table, and what is sent because of it.
unfoldable pub register_of : Terms → List PidInfo → Ledger
register_of t xs = record { table = through t registering xs; outbox = send_all empty_of (news t registering xs) }

unfoldable pub start_of : Terms → Answer
start_of t = record {
  manager = record { table = (register_of t no_table).table; metrics = no_metrics; last = t.now };
  outbox = (register_of t no_table).outbox;
  report = no_report;
}

-- An event that changes the entry of one PID, and what is told of it.
unfoldable pub entry_set : (PidInfo → PidInfo) → ℕ → List PidInfo → List PidInfo
entry_set f p xs = set xs p (f (get_or xs p nobody))

unfoldable pub entry_told : (PidInfo → PidInfo) → ℕ → List PidInfo → List DongleMessage
entry_told f p xs = told_of p (speed (get_or xs p nobody)) (speed (f (get_or xs p nobody)))

abbrev pub waiting_at : Terms → PidInfo → PidInfo
waiting_at t = waiting_of t.settings.mode t.now

abbrev pub consumed_at : Terms → Option ℕ → PidInfo → PidInfo
consumed_at t w = consumed_of (promotes_of t.settings.mode t.settings.promotion w) t.now

-- What an event makes of the manager, and what is sent because of it. Hits and misses count unknown PIDs too.
unfoldable pub after : Manager → Terms → Event → Manager
after m t ProfilePidsChanged = with_table m (through t registering m.table)
after m t (Waiting p) = with_table m (entry_set (waiting_at t) p m.table)
after m t (Consumed p w) = record { table = entry_set (consumed_at t w) p m.table; metrics = counted_of m.metrics w; last = m.last }
after m t Nothing = m

unfoldable pub sent : Manager → Terms → Event → List DongleMessage
sent m t ProfilePidsChanged = news t registering m.table
sent m t (Waiting p) = entry_told (waiting_at t) p m.table
sent m t (Consumed p w) = entry_told (consumed_at t w) p m.table
sent m t Nothing = []

unfoldable pub noted_of : Manager → Terms → Event → Noted
noted_of m t e = record { manager = after m t e; outbox = send_all empty_of (sent m t e) }

-- A CALL OF THE MANAGER: its event, then maintenance if it is due.
unfoldable pub handle_of : Manager → Terms → Event → Answer
handle_of m t e = finish_of (after m t e) (send_all empty_of (sent m t e)) t
