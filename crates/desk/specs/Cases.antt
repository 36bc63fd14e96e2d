-- Each definition of `Rules`, case by case: what the proofs of the functions and of the laws cite.
use Rattle.std.specs.Prelude.{true, false, ◌≡◌, ℕ, ◌+◌, ◌<◌, ◌≤◌, leb, set, replicate}
use Rattle.std.proofs.Math.Path.{ap}
use Rattle.std.proofs.Common.{◌∙◌, arith}
use Rattle.std.proofs.Math.ListN.{get_or}
use Rattle.base.specs.Refusal.{first_of}
use Rattle.clients.specs.Rules.{places, nobody, newcomer, place_of, seat_of, fresh_in}
use Rattle.clients.specs.Laws.{find_at, seat_registered, seat_place, seat_none}
use Rattle.clients.specs.declared.Client.{Client}
use Rattle.reply.specs.Rules.{empty_reply}
use Rattle.reply.specs.declared.Reply.{Reply}
use Rattle.desk.specs.Rules.{no_revs, start_desk, with_clients, with_given, most_numbers, full, registered, client_of, fresh, wait_of, put_client, register_refusal, entered, not_registered, register_of, leave_of}
use Rattle.desk.specs.declared.Desk.{Desk}

-- A client stored at the place where c was found.
pub put_at : (d : Desk) (c i : ℕ) (x y : Client) → i ≡ place_of d.clients c → x ≡ y → with_clients d (set d.clients i x) ≡ put_client d c y
unfolding put_client
put_at d c i x y e f = rw (e, f)

pub start_is : (x : Client) (r : Reply) → x ≡ newcomer 0 → r ≡ empty_reply
    → record { clients = replicate places x; store = replicate 256 r; given = 0; revs = no_revs } ≡ start_desk
unfolding start_desk
start_is x r e f = rw (e, f)

module _ (d : Desk) where
  pub refusal_numbers : leb most_numbers d.given ≡ true → register_refusal d ≡ 6
  unfolding register_refusal first_of
  refusal_numbers e = rw e

  pub refusal_full : leb most_numbers d.given ≡ false → full d ≡ true → register_refusal d ≡ 7
  unfolding register_refusal first_of
  refusal_full e f = rw (e, f)

  pub refusal_none : leb most_numbers d.given ≡ false → full d ≡ false → register_refusal d ≡ 0
  unfolding register_refusal first_of
  refusal_none e f = rw (e, f)

  pub register_numbers : leb most_numbers d.given ≡ true → register_of d ≡ not_registered 6 d
  unfolding register_of register_refusal first_of
  register_numbers e = rw e

  pub register_full : leb most_numbers d.given ≡ false → full d ≡ true → register_of d ≡ not_registered 7 d
  unfolding register_of register_refusal first_of
  register_full e f = rw (e, f)

  pub register_done : leb most_numbers d.given ≡ false → full d ≡ false
      → register_of d ≡ record { desk = entered d; refusal = 0; number = d.given + 1 }
  unfolding register_of register_refusal first_of
  register_done e f = rw (e, f)

  pub entered_is : (i : ℕ) (x : Client) → i ≡ place_of d.clients 0 → x ≡ newcomer (d.given + 1)
      → with_given (with_clients d (set d.clients i x)) (d.given + 1) ≡ entered d
  unfolding entered
  entered_is i x e f = ap (λ (y : Desk). with_given y (d.given + 1)) (put_at d 0 i x (newcomer (d.given + 1)) e f)

module _ (d : Desk) (c : ℕ) where
  pub leave_done : registered d c ≡ true → leave_of d c ≡ put_client d c (newcomer 0)
  unfolding leave_of
  leave_done e = rw e

  pub leave_nobody : registered d c ≡ false → leave_of d c ≡ d
  unfolding leave_of
  leave_nobody e = rw e

-- A client's seat: what stands there is the client, and what is stored there is put in its place.
module _ (d : Desk) (c i : ℕ) (e : i ≡ seat_of d.clients c) where
  pub seat_taken : i < places → registered d c ≡ true
  unfolding registered
  seat_taken h = seat_registered d.clients c (omega arith)

  pub seat_missing : places ≤ i → registered d c ≡ false
  unfolding registered
  seat_missing h = seat_none d.clients c (omega arith)

  pub at_place : i < places → i ≡ place_of d.clients c
  at_place h = e ∙ seat_place d.clients c (omega arith)

  pub seat_client : i < places → get_or d.clients i nobody ≡ client_of d c
  unfolding client_of
  seat_client h = ap (λ (k : ℕ). get_or d.clients k nobody) (at_place h) ∙ find_at d.clients c

  pub seat_put : i < places → (x y : Client) → x ≡ y → with_clients d (set d.clients i x) ≡ put_client d c y
  seat_put h x y f = put_at d c i x y (at_place h) f

  -- What the client at the seat waits for, and what is fresh for it.
  pub seat_wait : i < places → (get_or d.clients i nobody).wait ≡ wait_of d c
  unfolding wait_of
  seat_wait h = rw (seat_taken h) (ap (λ (x : Client). x.wait) (seat_client h))

  pub seat_fresh : i < places → (p : ℕ) → get_or (get_or d.clients i nobody).fresh p false ≡ fresh d c p
  unfolding fresh fresh_in
  seat_fresh h p = rw (seat_taken h) (ap (λ (x : Client). get_or x.fresh p false) (seat_client h))
