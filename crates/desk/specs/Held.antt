-- A registered client as it is held: what stands at its place, in the lent marks and by value, and what is put there.
use Rattle.std.specs.Prelude.{Bool, true, false, List, [], ◌≡◌, refl, ℕ, ◌<◌, ◌≤◌, length, set, get_or}
use Rattle.std.proofs.Common.{ap, sym, ◌∙◌}
use Rattle.clients.specs.Rules.{places, seat_of}
use Rattle.clients.specs.Seats.{seated, no_seat, clients_of}
use Rattle.clients.specs.declared.Client.{Client}
use Rattle.clients.specs.declared.seats.Seat.{Seat}
use Rattle.reply.specs.Rows.{reply_in, stored_at}
use Rattle.desk.specs.Rules.{registered, client_of, fresh, wait_of, stored, put_client}
use Rattle.desk.specs.Cases.{seat_taken, seat_missing, seat_client, seat_wait, seat_fresh, seat_put}
use Rattle.desk.specs.Core.{desk_of, with_seats, held_seat, held_client, put_seat, put_marks, put_both}
use Rattle.desk.specs.declared.Desk.{Desk}
use Rattle.desk.specs.declared.rest.Core.{Core}

-- The newest reply of a PID, out of its row.
pub held_reply : (replies : List (List ℕ)) (marks : List (List Bool)) (k : Core) (p : ℕ) → reply_in (get_or replies p []) ≡ stored (desk_of replies marks k) p
unfolding stored
held_reply replies marks k p = sym (stored_at replies p)

-- Client c, for whose place i was found.
module _ (replies : List (List ℕ)) (marks : List (List Bool)) (k : Core) (c i : ℕ) (e : i ≡ seat_of (clients_of [] k.clients) c) where
  abbrev d : Desk
  d = desk_of replies marks k

  found : i ≡ seat_of d.clients c
  found = held_seat replies marks k c i e

  pub held_missing : places ≤ i → registered d c ≡ false
  held_missing h = seat_missing d c i found h

  module _ (h : i < places) where
    pub held_known : registered d c ≡ true
    held_known = seat_taken d c i found h

    module _ (l : length k.clients ≡ places) where
      abbrev seat : Seat
      seat = get_or k.clients i no_seat

      pub held_is : seated (get_or marks i []) seat ≡ client_of d c
      held_is = sym (held_client replies marks k i l h) ∙ seat_client d c i found h

      pub held_wait : seat.wait ≡ wait_of d c
      held_wait = ap (λ (x : Client). x.wait) (sym (held_client replies marks k i l h)) ∙ seat_wait d c i found h

      pub held_fresh : (p : ℕ) → get_or (get_or marks i []) p false ≡ fresh d c p
      held_fresh p = ap (λ (x : Client). get_or x.fresh p false) (sym (held_client replies marks k i l h)) ∙ seat_fresh d c i found h p

    -- Another wait, other marks, or both.
    pub held_seat_put : (s : Seat) (x : Client) → seated (get_or marks i []) s ≡ x
        → desk_of replies marks (with_seats k (set k.clients i s)) ≡ put_client d c x
    held_seat_put s x f = put_seat replies marks k i s x f ∙ seat_put d c i found h x x refl

    module _ (m : i < length marks) (row : List Bool) where
      pub held_marks_put : (x : Client) → seated row (get_or k.clients i no_seat) ≡ x → desk_of replies (set marks i row) k ≡ put_client d c x
      held_marks_put x f = put_marks replies marks k i row x m f ∙ seat_put d c i found h x x refl

      pub held_both_put : (s : Seat) (x : Client) → seated row s ≡ x
          → desk_of replies (set marks i row) (with_seats k (set k.clients i s)) ≡ put_client d c x
      held_both_put s x f = put_both replies marks k i row s x m f ∙ seat_put d c i found h x x refl
