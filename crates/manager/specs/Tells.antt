-- What a call tells the poller, and what holds of it.
use Rattle.std.specs.Prelude.{List, [], ◌≡◌, ℕ, ◌<◌, ◌≤◌, length}
use Rattle.base.specs.Choice.{pick}
use Rattle.control.specs.Names.{Named}
use Rattle.control.specs.Outbox.{messages}
use Rattle.control.specs.Speed.{after_all}
use Rattle.control.specs.declared.DongleMessage.{DongleMessage}
use Rattle.passes.specs.Sweep.{news, speed_at}
use Rattle.passes.specs.declared.Terms.{Terms}
use Rattle.pid_table.specs.declared.PidInfo.{PidInfo}
use Rattle.manager.specs.Calls.{maintenance, due_of}
use Rattle.manager.specs.declared.Manager.{Manager}
use Rattle.manager.specs.declared.Event.{Event}
use Rattle.manager.specs.declared.Event.TheVariants.{ProfilePidsChanged, Waiting, Consumed, Nothing}
use Rattle.manager.specs.declared.Answer.{Answer}

-- An event names a PID of the table.
abbrev pub Names : Event → Type 0
Names ProfilePidsChanged = Unit {0}
Names (Waiting p) = p < 256
Names (Consumed p d) = p < 256
Names Nothing = Unit {0}

-- What the end of a call sends.
unfoldable pub finish_sent : Manager → Terms → List DongleMessage
finish_sent m t = pick (due_of m.last t.now) (news t maintenance m.table) []

-- The law of a call that found this table, had this to send and gave this answer.
pub record Tells (before : List PidInfo) (sent : List DongleMessage) (a : Answer) : Type 0 where
  pub whole : length a.manager.table ≡ 256
  pub said : messages a.outbox ≡ sent
  pub few : a.outbox.count ≤ 257
  pub counted : length (messages a.outbox) ≡ a.outbox.count
  pub agrees : (q : ℕ) → after_all (messages a.outbox) q (speed_at before q) ≡ speed_at a.manager.table q
  pub small : Named 256 (messages a.outbox)
