-- The poller as it is held: the lent arrays and what goes by value, put together as the poller that the rules are said of.
use Rattle.std.specs.Prelude.{◌≡◌, ℕ, ◌<◌, Bool, false, List, [], length, get_or, replicate, ◌==◌, slice_index_or, slice_set}
use Rattle.std.specs.Prelude.{refl}
use Rattle.std.proofs.Common.{ap, ◌∙◌, arith, length-set, get_or-set_same, get_or-set_other}
use Rattle.std.proofs.lemmas.Bool.{eqb-false}
use Rattle.link.specs.Core.{link_of}
use Rattle.link.specs.Rules.{start_link}
use Rattle.link.specs.declared.Link.{Link}
use Rattle.link.specs.declared.rest.Core.{Core as LinkCore}
use Rattle.pid_list.specs.Rules.{empty_list}
use Rattle.pid_list.specs.declared.PidList.{PidList}
use Rattle.plan.specs.Steps.{plan_of}
use Rattle.plan.specs.declared.Plan.{Plan}
use Rattle.config.specs.Defaults.{default_settings}
use Rattle.config.specs.declared.Settings.{Settings}
use Rattle.poller.specs.State.{start_of, closed_round, with_plan, with_round, with_settings}
use Rattle.poller.specs.declared.Checked.{Checked}
use Rattle.poller.specs.declared.Linked.{Linked}
use Rattle.poller.specs.declared.Poller.{Poller}
use Rattle.poller.specs.declared.Round.{Round}
use Rattle.poller.specs.declared.rest.Core.{Core}
use Rattle.poller.specs.declared.rest.Course.{Course}
use Rattle.poller.specs.declared.rest.Ends.{Ends}
use Rattle.poller.specs.declared.rest.Looked.{Looked}
use Rattle.poller.specs.declared.rest.Tried.{Tried}

-- What the host lends: the rows of PIDs and ECU counts, those of known lengths, the plan's PIDs, and the ranges' rows.
pub record Held : Type 0 where
  pub polled : List (List ℕ)
  pub known : List (List Bool)
  pub order : List ℕ
  pub ranges : List (List ℕ)

abbrev pub held : List (List ℕ) → List (List Bool) → List ℕ → List (List ℕ) → Held
held polled known order ranges = record { polled = polled; known = known; order = order; ranges = ranges }

-- The same with other arrays of the lists, of the connection, or of the ranges.
abbrev pub with_polled : Held → List (List ℕ) → Held
with_polled x polled = held polled x.known x.order x.ranges

abbrev pub with_connection : Held → List (List Bool) → List (List ℕ) → Held
with_connection x known ranges = held x.polled known x.order ranges

abbrev pub with_ranges : Held → List (List ℕ) → Held
with_ranges x ranges = held x.polled x.known x.order ranges

-- The rows: the fast list's PIDs, the slow one's, the ECU counts kept, and those that the plan goes by; the lengths known
-- to the connection, and those that the plan goes by.
abbrev pub fast_row : ℕ
fast_row = 0

abbrev pub slow_row : ℕ
slow_row = 1

abbrev pub counts_row : ℕ
counts_row = 2

abbrev pub fixed_row : ℕ
fixed_row = 3

abbrev pub polled_rows : ℕ
polled_rows = 4

abbrev pub lengths_row : ℕ
lengths_row = 0

abbrev pub fixed_lengths_row : ℕ
fixed_lengths_row = 1

abbrev pub known_rows : ℕ
known_rows = 2

-- Rows without a PID and a count.
unfoldable pub blank_polled : List (List ℕ)
blank_polled = replicate polled_rows (replicate 256 0)

pub blank_length : length blank_polled ≡ polled_rows
unfolding blank_polled
blank_length = refl

-- A list of its row and its ends.
abbrev pub list_of : List (List ℕ) → ℕ → Ends → PidList
list_of polled n e = record { pids = slice_index_or polled n []; len = e.len; index = e.index }

abbrev pub ends_of : PidList → Ends
ends_of l = record { len = l.len; index = l.index }

-- A plan of its arrays and its course.
abbrev pub plan_in : List (List ℕ) → List (List Bool) → List ℕ → Course → Plan
plan_in polled known order c = record {
  pids = order;
  len = c.len;
  counts = slice_index_or polled fixed_row [];
  known = slice_index_or known fixed_lengths_row [];
  maxpids = c.maxpids;
  group = c.group;
  at = c.at;
}

abbrev pub course_of : Plan → Course
course_of p = record { len = p.len; maxpids = p.maxpids; group = p.group; at = p.at }

-- THE POLLER that the lent arrays and the rest are.
abbrev pub poller_of : Held → Core → Poller
poller_of x k = record {
  fast = list_of x.polled fast_row k.fast;
  slow = list_of x.polled slow_row k.slow;
  clock = k.clock;
  requests = k.requests;
  counts = slice_index_or x.polled counts_row [];
  link = link_of (slice_index_or x.known lengths_row []) x.ranges k.link;
  settings = k.settings;
  plan = plan_in x.polled x.known x.order k.plan;
  round = k.round;
}

abbrev pub tried_in : Held → Tried → Linked
tried_in x r = record { poller = poller_of x r.core; said = r.said }

abbrev pub looked_in : Held → Looked → Checked
looked_in x r = record { poller = poller_of x r.core; yes = r.yes }

-- ---- what is read of an array of rows in which one was put

module _ {A : Type 0} (rows : List (List A)) (i : ℕ) (row : List A) where
  pub put_same : i < length rows → slice_index_or (slice_set rows i row) i [] ≡ row
  put_same h = get_or-set_same rows i row [] h

  pub put_other : (j : ℕ) → (j == i) ≡ false → slice_index_or (slice_set rows i row) j [] ≡ slice_index_or rows j []
  put_other j e = get_or-set_other rows i j row [] (eqb-false j i e)

  pub put_length : (n : ℕ) → length rows ≡ n → length (slice_set rows i row) ≡ n
  put_length n e = rw (length-set) e

-- Both lists put anew.
module _ (polled : List (List ℕ)) (a b : List ℕ) (h : length polled ≡ polled_rows) where
  abbrev pub listed : List (List ℕ)
  listed = slice_set (slice_set polled fast_row a) slow_row b

  pub listed_fast : get_or listed fast_row [] ≡ a
  listed_fast = put_other (slice_set polled fast_row a) slow_row b fast_row refl ∙ put_same polled fast_row a (omega arith)

  pub listed_slow : get_or listed slow_row [] ≡ b
  listed_slow = put_same (slice_set polled fast_row a) slow_row b (let n = put_length polled fast_row a polled_rows h in omega arith)

  pub listed_other : (j : ℕ) → (j == fast_row) ≡ false → (j == slow_row) ≡ false → slice_index_or listed j [] ≡ slice_index_or polled j []
  listed_other j e f = put_other (slice_set polled fast_row a) slow_row b j f ∙ put_other polled fast_row a j e

  pub listed_length : length listed ≡ polled_rows
  listed_length = put_length (slice_set polled fast_row a) slow_row b polled_rows (put_length polled fast_row a polled_rows h)

-- A plan put into the arrays, with the round that it is of.
pub planned : (x : Held) (k : Core) (plan : Plan) (s : Settings) (r : Round) → length x.polled ≡ polled_rows → length x.known ≡ known_rows
    → poller_of (held (slice_set x.polled fixed_row plan.counts) (slice_set x.known fixed_lengths_row plan.known) plan.pids x.ranges)
    (record { fast = k.fast; slow = k.slow; clock = k.clock; requests = k.requests; link = k.link; settings = s; plan = course_of plan; round = r })
    ≡ with_round (with_plan (with_settings (poller_of x k) s) plan) r
planned x k plan s r h g =
    let p = x.polled in
    let n = x.known in
    rw (
      put_same p fixed_row plan.counts (omega arith),
      put_other p fixed_row plan.counts fast_row refl,
      put_other p fixed_row plan.counts slow_row refl,
      put_other p fixed_row plan.counts counts_row refl,
      put_same n fixed_lengths_row plan.known (omega arith),
      put_other n fixed_lengths_row plan.known lengths_row refl,
    )

-- Other lengths known to the connection.
module _ (x : Held) (lengths : List Bool) (h : length x.known ≡ known_rows) where
  pub lengths_put : get_or (slice_set x.known lengths_row lengths) lengths_row [] ≡ lengths
  lengths_put = put_same x.known lengths_row lengths (omega arith)

  pub plan_lengths : get_or (slice_set x.known lengths_row lengths) fixed_lengths_row [] ≡ slice_index_or x.known fixed_lengths_row []
  plan_lengths = put_other x.known lengths_row lengths fixed_lengths_row refl

-- The start: no PID, no count, no length known, and a plan of nothing.
pub started : (t : ℕ) (order : List ℕ) (lengths : List Bool) (ranges : List (List ℕ)) (j : LinkCore) (plan : Plan) → link_of lengths ranges j ≡ start_link
    → plan ≡ plan_of empty_list empty_list (replicate 256 0) lengths 6
    → poller_of (held (slice_set blank_polled fixed_row plan.counts) (slice_set (replicate known_rows lengths) fixed_lengths_row plan.known) plan.pids ranges)
    (record { fast = ends_of empty_list; slow = ends_of empty_list; clock = t; requests = 0; link = j; settings = default_settings; plan = course_of plan; round = closed_round })
    ≡ start_of t
unfolding start_of blank_polled empty_list start_link
started t order lengths ranges j plan e f =
    let x = held blank_polled (replicate known_rows lengths) order ranges in
    let k : Core = record { fast = ends_of empty_list; slow = ends_of empty_list; clock = t; requests = 0; link = j; settings = default_settings; plan = course_of plan; round = closed_round } in
    planned x k plan default_settings closed_round refl refl ∙ rw (e, f, ap (λ (y : Link). y.known) e)
