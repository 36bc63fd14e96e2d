-- What the functions of `plan` answer: the queries of a round, one at a time.
use Rattle.std.specs.Prelude.{Bool, false, List, [], ◌∷◌, ◌++◌, ℕ, suc, ◌+◌, ◌-◌, ltb, eqb, length, get_or, take, drop, replicate}
use Rattle.base.specs.Choice.{pick, one}
use Rattle.pid_list.specs.Rules.{size_of, entries}
use Rattle.pid_list.specs.declared.PidList.{PidList}
use Rattle.plan.specs.Groups.{group_of, width_of, members, chunks, queries}
use Rattle.plan.specs.declared.Plan.{Plan}
use Rattle.plan.specs.declared.Chunk.{Chunk}
use Rattle.plan.specs.declared.Gathered.{Gathered}
use Rattle.plan.specs.declared.Taken.{Taken}

-- An array of n places that begins with xs and has zeros after them.
unfoldable pub padded : ℕ → List ℕ → List ℕ
padded n xs = xs ++ replicate (n - length xs) 0

-- How many places of a plan count: a length above 512 is 512.
unfoldable pub line_size : ℕ → ℕ
line_size len = pick (ltb len 512) len 512

-- The PIDs of a plan in order, and the group of each.
unfoldable pub line_of : Plan → List ℕ
line_of p = take (line_size p.len) p.pids

unfoldable pub key_in : Plan → ℕ → ℕ
key_in p q = group_of (get_or p.counts q 0) (get_or p.known q false)

-- At the begin: fast then slow, and no group asked yet.
unfoldable pub plan_of : PidList → PidList → List ℕ → List Bool → ℕ → Plan
plan_of fast slow counts known maxpids = record {
  pids = padded 512 (entries fast ++ entries slow);
  len = size_of fast.len + size_of slow.len;
  counts = counts;
  known = known;
  maxpids = maxpids;
  group = 0;
  at = 0;
}

-- What is still to be asked: the rest of the group that is asked, then the groups after it.
unfoldable pub left_of : Plan → List (List ℕ)
left_of p =
    chunks (width_of p.maxpids p.group) (members (key_in p) p.group (drop p.at (line_of p)))
    ++ queries (key_in p) p.maxpids (line_of p) (256 - p.group) (suc p.group)

-- g instead of `best`, where it is nearer above `above`.
unfoldable pub nearer_of : ℕ → ℕ → ℕ → ℕ
nearer_of above g best = pick (ltb above g) (pick (ltb g best) g best) best

-- The least group above `above` of the PIDs of a list, or `best` if that is less.
unfoldable pub least_from : (ℕ → ℕ) → ℕ → ℕ → List ℕ → ℕ
least_from key above best [] = best
least_from key above best (x ∷ xs) = least_from key above (nearer_of above (key x) best) xs

unfoldable pub least_in : Plan → ℕ → ℕ
least_in p above = least_from (key_in p) above 257 (line_of p)

-- How many of a list are passed until w of the group g are found.
unfoldable pub passed : (ℕ → ℕ) → ℕ → ℕ → List ℕ → ℕ
passed key g w [] = 0
passed key g w (x ∷ xs) = pick (eqb w 0) 0 (suc (passed key g (w - one (eqb (key x) g)) xs))

abbrev pub chunk_of : List ℕ → Chunk
chunk_of xs = record { pids = padded 6 xs; count = length xs }

-- The first PIDs of a group from a place on, as many as one query takes.
unfoldable pub gather_of : Plan → ℕ → ℕ → Gathered
gather_of p g from = record {
  chunk = chunk_of (take (width_of p.maxpids g) (members (key_in p) g (drop from (line_of p))));
  at = from + passed (key_in p) g (width_of p.maxpids g) (drop from (line_of p));
}

abbrev pub moved_to : Plan → ℕ → ℕ → Plan
moved_to p g i = record { pids = p.pids; len = p.len; counts = p.counts; known = p.known; maxpids = p.maxpids; group = g; at = i }

abbrev pub gathered : Plan → ℕ → ℕ → Taken
gathered p g from = record { plan = moved_to p g (gather_of p g from).at; chunk = (gather_of p g from).chunk }

-- The next chunk: of the group that is asked, or else of the next group that has a PID.
unfoldable pub take_of : Plan → Taken
take_of p =
    pick (eqb (gather_of p p.group p.at).chunk.count 0)
    (pick (ltb 256 (least_in p p.group)) (record { plan = p; chunk = chunk_of [] }) (gathered p (least_in p p.group) 0))
    (gathered p p.group p.at)
