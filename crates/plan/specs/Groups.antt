-- The queries of a multi round: document 01, "Rounds (poller)", fourth paragraph.
use Rattle.std.specs.Prelude.{Bool, List, [], ◌∷◌, ◌++◌, ℕ, zero, suc, ltb, eqb, length, take, drop}
use Rattle.base.specs.Choice.{pick}

-- The group of a PID: its ECU count where length and count are known; else 256, the rest, which is above every count.
unfoldable pub group_of : ℕ → Bool → ℕ
group_of count known = pick known (pick (eqb count 0) 256 count) 256

-- How many PIDs a query takes: the rest singly, else max_pids clamped to 2..6.
unfoldable pub width_of : ℕ → ℕ → ℕ
width_of maxpids g = pick (eqb g 256) 1 (pick (ltb maxpids 2) 2 (pick (ltb 6 maxpids) 6 maxpids))

-- The PIDs of the group g among those of a line, in order.
unfoldable pub members : (ℕ → ℕ) → ℕ → List ℕ → List ℕ
members key g [] = []
members key g (x ∷ xs) = pick (eqb (key x) g) (x ∷ members key g xs) (members key g xs)

-- A list in chunks of w, the last one possibly shorter; n bounds their number.
unfoldable pub chunks_in : ℕ → ℕ → List ℕ → List (List ℕ)
chunks_in zero w xs = []
chunks_in (suc n) w [] = []
chunks_in (suc n) w (x ∷ xs) = take w (x ∷ xs) ∷ chunks_in n w (drop w (x ∷ xs))

-- A chunk has one PID at least, so there are no more chunks than PIDs.
unfoldable pub chunks : ℕ → List ℕ → List (List ℕ)
chunks w xs = chunks_in (length xs) w xs

-- The queries of n groups from g on, for the PIDs of a line whose groups `key` gives.
unfoldable pub queries : (ℕ → ℕ) → ℕ → List ℕ → ℕ → ℕ → List (List ℕ)
queries key maxpids line zero g = []
queries key maxpids line (suc n) g = chunks (width_of maxpids g) (members key g line) ++ queries key maxpids line n (suc g)

-- The queries of a round: the groups of the ECU counts 1 to 255, rising, and then the rest.
unfoldable pub round_of : (ℕ → ℕ) → ℕ → List ℕ → List (List ℕ)
round_of key maxpids line = queries key maxpids line 256 1
