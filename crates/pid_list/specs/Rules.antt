-- What the functions of `pid_list` answer: document 01, "Rounds (poller)", first paragraph.
use Rattle.std.specs.Prelude.{Bool, Some, None, is_some, List, [], ◌∷◌, ℕ, suc, ◌+◌, ◌-◌, ◌%◌, ltb, eqb, set, get_or, take, replicate}
use Rattle.std.specs.Option.{unwrap_or}
use Rattle.base.specs.Choice.{pick}
use Rattle.pid_list.specs.declared.PidList.{PidList}
use Rattle.pid_list.specs.declared.Picked.{Picked}

-- Setters, since antt has no record update.
abbrev pub with_index : PidList → ℕ → PidList
with_index l i = record { pids = l.pids; len = l.len; index = i }

abbrev pub with_pids : PidList → List ℕ → ℕ → PidList
with_pids l ps n = record { pids = ps; len = n; index = l.index }

-- How many places count: a length above 256 is 256.
unfoldable pub size_of : ℕ → ℕ
size_of len = pick (ltb len 256) len 256

-- The PIDs of a list, in order.
unfoldable pub entries : PidList → List ℕ
entries l = take (size_of l.len) l.pids

unfoldable pub empty_list : PidList
empty_list = record { pids = replicate 256 0; len = 0; index = 0 }

-- The first place of p, or the length.
unfoldable pub place : List ℕ → ℕ → ℕ
place [] p = 0
place (x ∷ xs) p = pick (eqb x p) 0 (suc (place xs p))

-- An index within a list of n, 0 in an empty one.
unfoldable pub wrap : ℕ → ℕ → ℕ
wrap i n = pick (eqb n 0) 0 (i % n)

-- The last entry moves into the hole that p leaves; nothing moves where p is absent.
unfoldable pub swap_out : PidList → ℕ → PidList
swap_out l p =
    pick (ltb (place (entries l) p) (size_of l.len))
    (with_pids l (set l.pids (place (entries l) p) (get_or l.pids (size_of l.len - 1) 0)) (size_of l.len - 1))
    (with_pids l l.pids (size_of l.len))

-- p at the end. A full list stays as it is: one that holds no PID twice is never full of others than p.
unfoldable pub append_of : PidList → ℕ → PidList
append_of l p =
    pick (ltb (size_of l.len) 256)
    (with_pids l (set l.pids (size_of l.len) p) (size_of l.len + 1))
    (with_pids l l.pids (size_of l.len))

-- The index reduced modulo the length.
unfoldable pub fit_of : PidList → PidList
fit_of l = with_index l (wrap l.index (size_of l.len))

unfoldable pub remove_of : PidList → ℕ → PidList
remove_of l p = fit_of (swap_out l p)

unfoldable pub set_of : PidList → ℕ → PidList
set_of l p = fit_of (append_of (swap_out l p) p)

-- Whether a PID was picked, and which one; 0 where none was.
abbrev pub found : Picked → Bool
found c = is_some c.pid

abbrev pub pid_of : Picked → ℕ
pid_of c = unwrap_or c.pid 0

-- The PID at the index, and the index one further, from the end to the start.
unfoldable pub next_of : PidList → Picked
next_of l =
    pick (eqb (size_of l.len) 0)
    (record { list = l; pid = None })
    (record {
      list = with_index l (wrap (wrap l.index (size_of l.len) + 1) (size_of l.len));
      pid = Some (get_or l.pids (wrap l.index (size_of l.len)) 0);
    })
