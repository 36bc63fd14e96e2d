-- The box as one value, taken apart into arrays that can be lent and the rest, and put together again.
use Rattle.std.specs.Prelude.{◌≡◌, ℕ, Bool, List, [], ◌∷◌, map}
use Rattle.std.proofs.Common.{ap, sym, subst, ◌∙◌}
use Rattle.clients.specs.Seats.{seat_in, marks_in, together_again}
use Rattle.control_line.specs.Rows.{slots_of, line_of}
use Rattle.desk.specs.declared.Desk.{Desk}
use Rattle.desk.specs.declared.rest.Core as desk
use Rattle.dispatch.specs.Dispatch.{call_of, area_of, Promised}
use Rattle.link.specs.Ranges.{ranges_of}
use Rattle.link.specs.declared.Link.{Link}
use Rattle.link.specs.declared.rest.Core as link
use Rattle.manager.specs.Rows.{manager_of}
use Rattle.obd2.specs.Core.{Lent, box_of}
use Rattle.obd2.specs.History.{step}
use Rattle.obd2.specs.Answer.{Answered}
use Rattle.obd2.specs.declared.State.{State}
use Rattle.obd2.specs.declared.call.Brought.{Brought}
use Rattle.obd2.specs.declared.call.Call.{Call}
use Rattle.obd2.specs.declared.rest.Core.{Core}
use Rattle.pid_table.specs.Rows.{table_of}
use Rattle.poller.specs.Core.{ends_of, course_of}
use Rattle.poller.specs.declared.Poller.{Poller}
use Rattle.poller.specs.declared.rest.Core as poller
use Rattle.reply.specs.Rows.{store_of}

-- The desk but for its replies and marks.
abbrev pub desk_core : Desk → desk.Core
desk_core d = record { clients = map seat_in d.clients; given = d.given; revs = d.revs }

-- The connection and the poller but for their arrays.
abbrev pub link_core : Link → link.Core
link_core l = record { connected = l.connected; features = l.features; attempt = l.attempt }

abbrev pub poller_core : Poller → poller.Core
poller_core p = record {
  fast = ends_of p.fast;
  slow = ends_of p.slow;
  clock = p.clock;
  requests = p.requests;
  link = link_core p.link;
  settings = p.settings;
  plan = course_of p.plan;
  round = p.round;
}

-- The poller's rows: its lists' PIDs, the counts kept, the plan's counts; the lengths known to the connection, and to the plan.
abbrev pub polled_in : Poller → List (List ℕ)
polled_in p = p.fast.pids ∷ p.slow.pids ∷ p.counts ∷ p.plan.counts ∷ []

abbrev pub known_in : Poller → List (List Bool)
known_in p = p.link.known ∷ p.plan.known ∷ []

-- The box but for its arrays.
abbrev pub core_of : State → Core
core_of s = record {
  desk = desk_core s.desk;
  manager = record { metrics = s.manager.metrics; last = s.manager.last };
  poller = poller_core s.poller;
  line = record { head = s.line.head; count = s.line.count };
  profiles = s.profiles;
  settings = s.settings;
  time = s.time;
}

-- Arrays that are a box's: its replies, its clients' marks, its table, the places of its line, and its poller's.
pub record Parts (s : State) (x : Lent) : Type 0 where
  pub replies : store_of x.replies ≡ s.desk.store
  pub marks : x.marks ≡ map marks_in s.desk.clients
  pub table : table_of x.table ≡ s.manager.table
  pub slots : slots_of x.slots ≡ s.line.slots
  pub polled : x.polling.polled ≡ polled_in s.poller
  pub known : x.polling.known ≡ known_in s.poller
  pub order : x.polling.order ≡ s.poller.plan.pids
  pub ranges : ranges_of x.polling.ranges ≡ s.poller.link.ranges

-- Such arrays and the rest are the box again.
pub box_again : (s : State) (x : Lent) → Parts s x → box_of x (core_of s) ≡ s
unfolding manager_of line_of
box_again s x p = rw (p.replies, p.marks, p.table, p.slots, p.polled, p.known, p.order, p.ranges, together_again s.desk.clients)

-- What a call over the parts promises, it promises of the box: r is the answer by value, d what the call told beside the arrays,
-- which y are after it, and left is the area then.
pub by_parts : (s : State) (x : Lent) (k : Core) → Parts s x → k ≡ core_of s
    → (t : ℕ) (c : Call) (b : Brought) (cmd area left : List ℕ) (a r : Answered) → r ≡ a
    → (a ≡ step (box_of x k) (call_of t c b cmd area)) × ((left ≡ area_of (box_of x k) t c b cmd area) × Promised (box_of x k) (call_of t c b cmd area) a)
    → (r ≡ step s (call_of t c b cmd area)) × ((left ≡ area_of s t c b cmd area) × Promised s (call_of t c b cmd area) r)
by_parts s x k p e t c b cmd area left a r f h =
    subst (λ (y : Answered). (y ≡ step s (call_of t c b cmd area)) × ((left ≡ area_of s t c b cmd area) × Promised s (call_of t c b cmd area) y)) (sym f)
    (subst (λ (z : State). (a ≡ step z (call_of t c b cmd area)) × ((left ≡ area_of z t c b cmd area) × Promised z (call_of t c b cmd area) a)) (ap (box_of x) e ∙ box_again s x p) h)
