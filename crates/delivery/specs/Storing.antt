-- What a response leaves at the desk, whose newest replies and fresh marks are lent.
use Rattle.std.specs.Prelude.{Option, Bool, true, List, map, ◌≡◌, refl, ℕ, ◌+◌, set}
use Rattle.std.proofs.Common.{ap}
use Rattle.clients.specs.Rules.{marked_of}
use Rattle.clients.specs.Seats.{clients_of}
use Rattle.config.specs.declared.Profiles.{Profiles}
use Rattle.desk.specs.Core.{desk_of}
use Rattle.desk.specs.declared.Desk.{Desk}
use Rattle.desk.specs.declared.rest.Core.{Core}
use Rattle.reply.specs.Rows.{reply_in, stored_set}
use Rattle.reply.specs.declared.Response.{Response}
use Rattle.delivery.specs.Rules.{unfit, deliver_of, pid_at, reply_at, value_at, turn_of, response_of}
use Rattle.delivery.specs.Cases.{response_refused}
use Rattle.delivery.specs.Turns.{answer_after, answer_start, answer_next}
use Rattle.delivery.specs.Evaluation.{evaluated_of}
use Rattle.delivery.specs.declared.Answered.{Answered}
use Rattle.delivery.specs.declared.evaluation.Evaluated.{Evaluated}

abbrev pub with_revs : Core → Option ℕ → Core
with_revs k revs = record { clients = k.clients; given = k.given; revs = revs }

-- THE DESK d is what lent replies, lent marks and the rest are, once the rest has the desk's revs.
abbrev pub Held : List (List ℕ) → List (List Bool) → Core → Desk → Type 0
Held replies marks k d = desk_of replies marks (with_revs k d.revs) ≡ d

-- One PID's turn: the reply's row is stored at the PID, and every registered client's marks have the PID.
module _ (r : Response) (i : ℕ) (replies : List (List ℕ)) (marks marked : List (List Bool)) (k : Core) (p : ℕ) (row : List ℕ)
    (g : p ≡ pid_at r i)
    (e : reply_in row ≡ reply_at r i)
    (f : clients_of marked k.clients ≡ map (marked_of (pid_at r i)) (clients_of marks k.clients)) where
  held_turn : (a : Answered) → Held replies marks k a.desk → Held (set replies p row) marked k (turn_of r i a).desk
  unfolding turn_of deliver_of
  held_turn a h = rw (f, stored_set replies p row, g, e) (ap (deliver_of (pid_at r i) (reply_at r i) (value_at r i)) h)

  pub held_next : (d : Desk) (ps : Profiles) → Held replies marks k (answer_after i d ps r).desk
      → Held (set replies p row) marked k (answer_after (i + 1) d ps r).desk
  held_next d ps h = rw (answer_next d ps r i) (held_turn (answer_after i d ps r) h)

-- The response at the desk that lent arrays and the rest are.
module _ (replies : List (List ℕ)) (marks : List (List Bool)) (k : Core) (ps : Profiles) (r : Response) where
  abbrev d : Desk
  d = desk_of replies marks k

  pub held_start : Held replies marks k (answer_after 0 d ps r).desk
  held_start = rw (answer_start d ps r)

  pub held_refused : unfit r ≡ true → Held replies marks k (response_of d ps r).desk
  held_refused e = rw (response_refused d ps r e)

  -- RESPONSE, evaluated and stored: the desk after it, with the revs that were evaluated.
  pub evaluated_stored : (stored : List (List ℕ)) (marked : List (List Bool)) (e : Evaluated)
      → ((any : Desk) → any.revs ≡ k.revs → e ≡ evaluated_of (response_of any ps r))
      → Held stored marked k (response_of d ps r).desk
      → desk_of stored marked (with_revs k e.revs) ≡ (response_of d ps r).desk
  evaluated_stored stored marked e f h = rw (f d refl) h
