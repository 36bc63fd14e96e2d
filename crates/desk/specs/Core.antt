-- The desk as it is held: the newest replies and the clients' fresh marks as lent rows, the rest by value.
use Rattle.std.specs.Prelude.{Bool, List, [], ◌≡◌, refl, ℕ, ◌+◌, ◌<◌, length, set, get_or}
use Rattle.std.proofs.Math.Path.{ap}
use Rattle.std.proofs.Common.{sym, ◌∙◌, arith}
use Rattle.clients.specs.Rules.{places, nobody, newcomer, place_of, seat_of}
use Rattle.clients.specs.Seats.{seated, new_seat, no_seat, no_marks, vacant_seats, blank_marks, nobodies, clients_of, start_clients, client_at, place_any, seat_any, set_seat, set_both, set_marks, newcomer_seated}
use Rattle.clients.specs.declared.Client.{Client}
use Rattle.clients.specs.declared.seats.Seat.{Seat}
use Rattle.reply.specs.Rows.{store_of, blank_rows, unknown_replies, stored_blank}
use Rattle.desk.specs.Rules.{no_revs, start_desk, with_clients, with_given, put_client, entered}
use Rattle.desk.specs.Cases.{put_at}
use Rattle.desk.specs.declared.Desk.{Desk}
use Rattle.desk.specs.declared.rest.Core.{Core}

-- THE DESK that lent replies, lent marks and the rest are.
abbrev pub desk_of : List (List ℕ) → List (List Bool) → Core → Desk
desk_of replies marks k = record { clients = clients_of marks k.clients; store = store_of replies; given = k.given; revs = k.revs }

-- The desk before any call.
pub start_desk_law : desk_of blank_rows blank_marks (record { clients = vacant_seats; given = 0; revs = no_revs }) ≡ start_desk
unfolding start_desk unknown_replies nobodies
start_desk_law = rw (start_clients, stored_blank)

abbrev pub with_seats : Core → List Seat → Core
with_seats k seats = record { clients = seats; given = k.given; revs = k.revs }

module _ (replies : List (List ℕ)) (marks : List (List Bool)) (k : Core) where
  abbrev d : Desk
  d = desk_of replies marks k

  -- A client's place, as it is found among the places alone.
  pub held_place : (c i : ℕ) → i ≡ place_of (clients_of [] k.clients) c → i ≡ place_of d.clients c
  held_place c i e = e ∙ sym (place_any marks k.clients c)

  pub held_seat : (c i : ℕ) → i ≡ seat_of (clients_of [] k.clients) c → i ≡ seat_of d.clients c
  held_seat c i e = e ∙ sym (seat_any marks k.clients c)

  -- What stands at a place.
  pub held_client : (i : ℕ) → length k.clients ≡ places → i < places → get_or d.clients i nobody ≡ seated (get_or marks i []) (get_or k.clients i no_seat)
  held_client i l h = client_at marks k.clients i (omega arith)

  -- Another number and wait at a place, other marks, or both.
  pub put_seat : (i : ℕ) (s : Seat) (x : Client) → seated (get_or marks i []) s ≡ x
      → desk_of replies marks (with_seats k (set k.clients i s)) ≡ with_clients d (set d.clients i x)
  put_seat i s x e = ap (with_clients d) (set_seat marks k.clients i s ∙ ap (λ (y : Client). set d.clients i y) e)

  pub put_marks : (i : ℕ) (row : List Bool) (x : Client) → i < length marks → seated row (get_or k.clients i no_seat) ≡ x
      → desk_of replies (set marks i row) k ≡ with_clients d (set d.clients i x)
  put_marks i row x h e = ap (with_clients d) (set_marks marks k.clients i row h ∙ ap (λ (y : Client). set d.clients i y) e)

  pub put_both : (i : ℕ) (row : List Bool) (s : Seat) (x : Client) → i < length marks → seated row s ≡ x
      → desk_of replies (set marks i row) (with_seats k (set k.clients i s)) ≡ with_clients d (set d.clients i x)
  put_both i row s x h e = ap (with_clients d) (set_both marks k.clients i row s h ∙ ap (λ (y : Client). set d.clients i y) e)

  -- A place that is given anew, or freed: its marks are cleared, since nothing came for its next client yet.
  pub put_new : (c i n : ℕ) (row : List Bool) (s : Seat) → i ≡ place_of d.clients c → i < length marks → row ≡ no_marks → s ≡ new_seat n
      → desk_of replies (set marks i row) (with_seats k (set k.clients i s)) ≡ put_client d c (newcomer n)
  put_new c i n row s e h f g =
      put_both i row s (newcomer n) h (rw (f, g) (sym (newcomer_seated n)))
      ∙ put_at d c i (newcomer n) (newcomer n) e refl

  -- A new client.
  pub put_entered : (i : ℕ) (row : List Bool) (s : Seat) → i ≡ place_of d.clients 0 → i < length marks → row ≡ no_marks → s ≡ new_seat (k.given + 1)
      → desk_of replies (set marks i row) (record { clients = set k.clients i s; given = k.given + 1; revs = k.revs }) ≡ entered d
  unfolding entered
  put_entered i row s e h f g = ap (λ (y : Desk). with_given y (k.given + 1)) (put_new 0 i (k.given + 1) row s e h f g)
