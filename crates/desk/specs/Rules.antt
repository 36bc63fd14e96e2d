-- The desk: who is registered, and the newest reply of each PID (document 01, "Client cache").
use Rattle.std.specs.Prelude.{Option, Some, None, Bool, ◌&&◌, List, [], ◌∷◌, ℕ, ◌+◌, leb, eqb, set, get_or, replicate}
use Rattle.base.specs.Choice.{pick}
use Rattle.base.specs.Refusal.{Rows, first_of}
use Rattle.clients.specs.Rules.{places, idle, newcomer, place_of, find_of, registered_of, fresh_in}
use Rattle.clients.specs.declared.Wait.{Wait}
use Rattle.clients.specs.declared.Client.{Client}
use Rattle.reply.specs.Rules.{empty_reply, no_reply}
use Rattle.reply.specs.declared.Reply.{Reply}
use Rattle.desk.specs.declared.Desk.{Desk}
use Rattle.desk.specs.declared.Registered.{Registered}

abbrev pub no_revs : Option ℕ
no_revs = None

-- The revs as a number: 0 where none are known.
abbrev pub revs_number : Option ℕ → ℕ
revs_number None = 0
revs_number (Some v) = v

unfoldable pub start_desk : Desk
start_desk = record { clients = replicate places (newcomer 0); store = replicate 256 empty_reply; given = 0; revs = no_revs }

abbrev pub with_clients : Desk → List Client → Desk
with_clients d x = record { clients = x; store = d.store; given = d.given; revs = d.revs }

-- What is asked of a desk, by a client's number c and a PID p.
unfoldable pub registered : Desk → ℕ → Bool
registered d c = registered_of d.clients c

unfoldable pub client_of : Desk → ℕ → Client
client_of d c = find_of d.clients c

unfoldable pub fresh : Desk → ℕ → ℕ → Bool
fresh d c p = registered d c && fresh_in (client_of d c) p

unfoldable pub wait_of : Desk → ℕ → Option Wait
wait_of d c = pick (registered d c) (client_of d c).wait idle

unfoldable pub stored : Desk → ℕ → Reply
stored d p = get_or d.store p no_reply

-- The desk with another client in the place of c.
unfoldable pub put_client : Desk → ℕ → Client → Desk
put_client d c x = with_clients d (set d.clients (place_of d.clients c) x)

abbrev pub most_numbers : ℕ
most_numbers = 4294967294

-- No place is free: number 0 stands for a free one.
abbrev pub full : Desk → Bool
full d = leb places (place_of d.clients 0)

abbrev pub register_rows : Desk → Rows
register_rows d = (6, leb most_numbers d.given) ∷ (7, full d) ∷ []

unfoldable pub register_refusal : Desk → ℕ
register_refusal d = first_of (register_rows d)

abbrev pub with_given : Desk → ℕ → Desk
with_given d n = record { clients = d.clients; store = d.store; given = n; revs = d.revs }

unfoldable pub entered : Desk → Desk
entered d = with_given (put_client d 0 (newcomer (d.given + 1))) (d.given + 1)

abbrev pub not_registered : ℕ → Desk → Registered
not_registered n d = record { desk = d; refusal = n; number = 0 }

unfoldable pub register_of : Desk → Registered
register_of d =
    pick (eqb (register_refusal d) 0)
    (record { desk = entered d; refusal = 0; number = d.given + 1 })
    (not_registered (register_refusal d) d)

unfoldable pub leave_of : Desk → ℕ → Desk
leave_of d c = pick (registered d c) (put_client d c (newcomer 0)) d
