-- What a result teaches and ends: document 01, "Rounds (poller)".
use Rattle.std.specs.Prelude.{ℕ, Bool, false, ◌&&◌, ◌||◌, List, [], ◌∷◌, drop, ◌==◌, nat_le, slice_index, slice_index_or, slice_set}
use Rattle.base.specs.Choice.{pick}
use Rattle.link.specs.Rules.{is_no, loss_of}
use Rattle.link.specs.declared.Features.{Features}
use Rattle.link.specs.declared.Link.{Link}
use Rattle.poller.specs.State.{no_query, pids_of}
use Rattle.rounds.specs.Numbers.{kind_number}
use Rattle.rounds.specs.declared.Kind.{Kind}
use Rattle.poller.specs.declared.Phase.{Phase}
use Rattle.poller.specs.declared.Phase.TheVariants.{Closed, First, FastDue, Test, SlowDue, Multi, MultiDue, Over}
use Rattle.rounds.specs.declared.Learnt.{Learnt}
use Rattle.rounds.specs.declared.Lessons.{Lessons}
use Rattle.rounds.specs.declared.Outcome.{Outcome}
use Rattle.poller.specs.declared.Poller.{Poller}
use Rattle.poller.specs.declared.Query.{Query}
use Rattle.poller.specs.declared.Round.{Round}

abbrev pub is_lost : Kind → Bool
is_lost k = kind_number k == 2

-- The first ECU count is kept for good.
unfoldable pub keep_of : List ℕ → ℕ → ℕ → List ℕ
keep_of counts q c = pick (slice_index counts q == 0) (slice_set counts q c) counts

-- What a result says of a PID: its count, if it is the first, and whether its length is known.
unfoldable pub teach_of : Lessons → ℕ → Learnt → Lessons
teach_of k q l = record { counts = keep_of k.counts q l.ecu; known = slice_set k.known q l.known }

-- A result has one `Learnt` for each PID, in the query's order.
abbrev pub nothing : Learnt
nothing = record { ecu = 0; known = false }

unfoldable pub teach_all : Lessons → List ℕ → List Learnt → Lessons
teach_all k [] ls = k
teach_all k (q ∷ qs) ls = teach_all (teach_of k q (slice_index_or ls 0 nothing)) qs (drop 1 ls)

unfoldable pub learn_of : Lessons → Query → List Learnt → Lessons
learn_of k q ls = teach_all k (pids_of q) ls

abbrev pub lessons_of : Poller → Outcome → Lessons
lessons_of p o = learn_of (record { counts = p.counts; known = p.link.known }) p.round.due o.learnt

abbrev pub with_known : Link → List Bool → Features → Link
with_known l known features = record { connected = l.connected; features = features; ranges = l.ranges; known = known; attempt = l.attempt }

-- The connection after a result: what it taught, and its loss.
unfoldable pub link_after : Link → List Bool → Features → Bool → Link
link_after l known features gone = pick gone (loss_of (with_known l known features)) (with_known l known features)

-- A lost connection, or state "no" after a chunk of two or more, ends a multi round.
abbrev pub ends_multi : ℕ → Bool → Bool → Bool
ends_multi count denied gone = gone || (denied && nat_le 2 count)

-- After the fast result comes the slow test; after the slow one the end; after a chunk the next one, or the end. Where no result is
-- due the phase stays.
abbrev pub phase_after : Phase → Bool → Phase
phase_after Closed over = Closed
phase_after First over = First
phase_after FastDue over = Test
phase_after Test over = Test
phase_after SlowDue over = Over
phase_after Multi over = Multi
phase_after MultiDue over = pick over Over Multi
phase_after Over over = Over

unfoldable pub round_after : Round → Bool → Bool → Round
round_after r denied gone = record {
  phase = phase_after r.phase (ends_multi r.due.count denied gone);
  nofast = r.nofast;
  issued = r.issued;
  due = no_query;
}

-- The slow clock is set at the slow result.
abbrev pub clock_after : Phase → ℕ → ℕ → ℕ
clock_after Closed clock t = clock
clock_after First clock t = clock
clock_after FastDue clock t = clock
clock_after Test clock t = clock
clock_after SlowDue clock t = t
clock_after Multi clock t = clock
clock_after MultiDue clock t = clock
clock_after Over clock t = clock

-- Where no result is due the box refuses by 13 and does not come here.
unfoldable pub result_of : Poller → ℕ → Outcome → Poller
result_of p t o = record {
  fast = p.fast;
  slow = p.slow;
  clock = clock_after p.round.phase p.clock t;
  requests = p.requests;
  counts = (lessons_of p o).counts;
  link = link_after p.link (lessons_of p o).known o.features (is_lost o.kind);
  settings = p.settings;
  plan = p.plan;
  round = round_after p.round (is_no o.features.multi) (is_lost o.kind);
}
