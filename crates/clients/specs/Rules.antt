-- The places of the clients. A client is spoken of by its number, never by its place.
use Rattle.std.specs.Prelude.{Option, Some, None, Bool, true, false, ◌&&◌, not, List, [], ◌∷◌, ℕ, suc, ltb, eqb, set, get_or, replicate}
use Rattle.base.specs.Choice.{pick}
use Rattle.clients.specs.declared.Wait.{Wait}
use Rattle.clients.specs.declared.Client.{Client}

abbrev pub places : ℕ
places = 8

abbrev pub idle : Option Wait
idle = None

-- What is waited for, and since when: 0 where nothing is.
abbrev pub pid_in : Option Wait → ℕ
pid_in None = 0
pid_in (Some w) = w.pid

abbrev pub since_in : Option Wait → ℕ
since_in None = 0
since_in (Some w) = w.since

unfoldable pub newcomer : ℕ → Client
newcomer n = record { number = n; wait = idle; fresh = replicate 256 false }

-- What is found where there is no client.
abbrev pub nobody : Client
nobody = record { number = 0; wait = idle; fresh = [] }

abbrev pub with_fresh : Client → List Bool → Client
with_fresh x f = record { number = x.number; wait = x.wait; fresh = f }

abbrev pub with_wait : Client → Option Wait → Client
with_wait x w = record { number = x.number; wait = w; fresh = x.fresh }

-- The first place of a number, or the number of places.
unfoldable pub place_of : List Client → ℕ → ℕ
place_of [] c = 0
place_of (x ∷ xs) c = pick (eqb x.number c) 0 (suc (place_of xs c))

unfoldable pub marked_of : ℕ → Client → Client
marked_of p x = pick (eqb x.number 0) x (with_fresh x (set x.fresh p true))

unfoldable pub taken_of : ℕ → Client → Client
taken_of p x = with_fresh x (set x.fresh p false)

unfoldable pub waiting_of : ℕ → ℕ → Client → Client
waiting_of p t x = with_wait x (Some (record { pid = p; since = t }))

unfoldable pub idled_of : Client → Client
idled_of x = with_wait x idle

-- The client of a number, nobody where there is none; and whether a number is a client's, which 0 never is.
unfoldable pub find_of : List Client → ℕ → Client
find_of [] c = nobody
find_of (x ∷ xs) c = pick (eqb x.number c) x (find_of xs c)

unfoldable pub registered_of : List Client → ℕ → Bool
registered_of xs c = not (eqb c 0) && ltb (place_of xs c) places

-- The place of a registered number, else the number of places.
unfoldable pub seat_of : List Client → ℕ → ℕ
seat_of xs c = pick (eqb c 0) places (place_of xs c)

unfoldable pub numbers_of : List Client → List ℕ
numbers_of [] = []
numbers_of (x ∷ xs) = x.number ∷ numbers_of xs

-- Whether a reply for the PID came that the client was not handed yet.
unfoldable pub fresh_in : Client → ℕ → Bool
fresh_in x p = get_or x.fresh p false
