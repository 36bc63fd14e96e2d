-- The poller's state: its start, its setters, and when a round is open and a result due.
use Rattle.std.specs.Prelude.{ℕ, Bool, true, false, List, take, replicate}
use Rattle.config.specs.Defaults.{default_settings}
use Rattle.config.specs.declared.Settings.{Settings}
use Rattle.link.specs.Rules.{start_link}
use Rattle.link.specs.declared.Link.{Link}
use Rattle.pid_list.specs.Rules.{empty_list}
use Rattle.pid_list.specs.declared.PidList.{PidList}
use Rattle.plan.specs.Steps.{plan_of}
use Rattle.plan.specs.declared.Plan.{Plan}
use Rattle.poller.specs.declared.Phase.{Phase}
use Rattle.poller.specs.declared.Phase.TheVariants.{Closed, First, FastDue, Test, SlowDue, Multi, MultiDue, Over}
use Rattle.poller.specs.declared.Query.{Query}
use Rattle.poller.specs.declared.Round.{Round}
use Rattle.poller.specs.declared.Poller.{Poller}

-- Whether a round is open, and whether its query's result is due.
abbrev pub open_of : Phase → Bool
open_of Closed = false
open_of First = true
open_of FastDue = true
open_of Test = true
open_of SlowDue = true
open_of Multi = true
open_of MultiDue = true
open_of Over = true

abbrev pub due_of : Phase → Bool
due_of Closed = false
due_of First = false
due_of FastDue = true
due_of Test = false
due_of SlowDue = true
due_of Multi = false
due_of MultiDue = true
due_of Over = false

abbrev pub no_query : Query
no_query = record { pids = replicate 6 0; count = 0; ecu = 0 }

-- The PIDs that a query names.
unfoldable pub pids_of : Query → List ℕ
pids_of q = take q.count q.pids

-- A round that has asked nothing yet, and whether its fast list was empty at begin.
abbrev pub opened_round : Phase → Bool → Round
opened_round phase nofast = record { phase = phase; nofast = nofast; issued = 0; due = no_query }

abbrev pub closed_round : Round
closed_round = opened_round Closed false

-- The poller before any call, at its time.
unfoldable pub start_of : ℕ → Poller
start_of t = record {
  fast = empty_list;
  slow = empty_list;
  clock = t;
  requests = 0;
  counts = replicate 256 0;
  link = start_link;
  settings = default_settings;
  plan = plan_of empty_list empty_list (replicate 256 0) (replicate 256 false) 6;
  round = closed_round;
}

-- Setters, since antt has no record update.
abbrev pub with_fast : Poller → PidList → ℕ → Poller
with_fast p l n = record {
  fast = l;
  slow = p.slow;
  clock = p.clock;
  requests = n;
  counts = p.counts;
  link = p.link;
  settings = p.settings;
  plan = p.plan;
  round = p.round;
}

abbrev pub with_slow : Poller → PidList → ℕ → ℕ → Poller
with_slow p l t n = record {
  fast = p.fast;
  slow = l;
  clock = t;
  requests = n;
  counts = p.counts;
  link = p.link;
  settings = p.settings;
  plan = p.plan;
  round = p.round;
}

abbrev pub with_lists : Poller → PidList → PidList → Poller
with_lists p f s = record {
  fast = f;
  slow = s;
  clock = p.clock;
  requests = p.requests;
  counts = p.counts;
  link = p.link;
  settings = p.settings;
  plan = p.plan;
  round = p.round;
}

abbrev pub with_link : Poller → Link → Poller
with_link p l = record {
  fast = p.fast;
  slow = p.slow;
  clock = p.clock;
  requests = p.requests;
  counts = p.counts;
  link = l;
  settings = p.settings;
  plan = p.plan;
  round = p.round;
}

abbrev pub with_round : Poller → Round → Poller
with_round p r = record {
  fast = p.fast;
  slow = p.slow;
  clock = p.clock;
  requests = p.requests;
  counts = p.counts;
  link = p.link;
  settings = p.settings;
  plan = p.plan;
  round = r;
}

abbrev pub with_plan : Poller → Plan → Poller
with_plan p l = record {
  fast = p.fast;
  slow = p.slow;
  clock = p.clock;
  requests = p.requests;
  counts = p.counts;
  link = p.link;
  settings = p.settings;
  plan = l;
  round = p.round;
}

abbrev pub with_settings : Poller → Settings → Poller
with_settings p s = record {
  fast = p.fast;
  slow = p.slow;
  clock = p.clock;
  requests = p.requests;
  counts = p.counts;
  link = p.link;
  settings = s;
  plan = p.plan;
  round = p.round;
}
