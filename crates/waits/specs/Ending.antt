-- Collect and give up over lent replies and marks: their answers as those of `Rules`, case by case.
use Rattle.clients.specs.Rules.{pid_in}
use Rattle.std.specs.Prelude.{Option, Some, None, is_some, ◌≡◌, ℕ, ◌-◌, ◌<◌, ◌≤◌, Bool, true, false, ltb, List, [], length, replicate, ◌≢◌, nat_lt, slice_index_or, slice_set}
use Rattle.std.proofs.Common.{ap, sym, ◌∙◌, arith}
use Rattle.clients.specs.Rules.{places, seat_of, taken_of, idled_of}
use Rattle.clients.specs.Seats.{seated, no_seat, clients_of, taken_marks}
use Rattle.clients.specs.declared.Wait.{Wait}
use Rattle.clients.specs.declared.seats.Seat.{Seat}
use Rattle.desk.specs.Rules.{client_of, fresh, wait_of, stored, put_client}
use Rattle.desk.specs.Core.{desk_of, with_seats}
use Rattle.desk.specs.Held.{held_reply, held_missing, held_known, held_is, held_wait, held_fresh, held_seat_put, held_both_put}
use Rattle.desk.specs.declared.Desk.{Desk}
use Rattle.desk.specs.declared.rest.Core.{Core}
use Rattle.reply.specs.Rules.{max_lines, size_of, filled_of}
use Rattle.reply.specs.Rows.{reply_in}
use Rattle.reply.specs.declared.Reply.{Reply}
use Rattle.waits.specs.Rules.{awaited, awaited_reply, collect_refusal, collect_of, collect_area, gave_up, give_up_of}
use Rattle.waits.specs.Cases.{collect_stranger, collect_idle, collect_early, collect_short, collect_none, collect_refused, collect_done, collected_is, give_up_stranger, give_up_idle, give_up_done}
use Rattle.waits.specs.declared.Collected.{Collected}
use Rattle.waits.specs.declared.GivenUp.{GivenUp}
use Rattle.waits.specs.declared.ending.Handed.{Handed}
use Rattle.waits.specs.declared.ending.Ended.{Ended}

-- A collect that is refused, and one that hands a reply out; a give up.
abbrev pub not_handed : ℕ → Core → Handed
not_handed n k = record { core = k; refusal = n; pid = 0; wait = 0; lines = 0; lengths = replicate max_lines 0 }

abbrev pub handed : Core → ℕ → ℕ → Reply → Handed
handed k p w r = record { core = k; refusal = 0; pid = p; wait = w; lines = r.lines; lengths = r.lengths }

abbrev pub ended : ℕ → Core → Ended
ended n k = record { core = k; refusal = n }

-- THE ANSWERS that they are, with the lent replies and marks.
abbrev pub collected_in : List (List ℕ) → List (List Bool) → Handed → Collected
collected_in replies marks r =
    record {
      desk = desk_of replies marks r.core;
      refusal = r.refusal;
      pid = r.pid;
      wait = r.wait;
      lines = r.lines;
      lengths = r.lengths;
    }

abbrev pub given_up_in : List (List ℕ) → List (List Bool) → Ended → GivenUp
given_up_in replies marks r = record { desk = desk_of replies marks r.core; refusal = r.refusal }

-- Client c, for whose place i was found.
module _ (replies : List (List ℕ)) (marks : List (List Bool)) (k : Core) (c i : ℕ) (e : i ≡ seat_of (clients_of [] k.clients) c) where
  abbrev d : Desk
  d = desk_of replies marks k

  pub stranger_gives_up : places ≤ i → given_up_in replies marks (ended 8 k) ≡ give_up_of d c
  stranger_gives_up h = sym (give_up_stranger d c (held_missing replies marks k c i e h))

  pub stranger_collects : places ≤ i → (t : ℕ) (area : List ℕ)
      → (collected_in replies marks (not_handed 8 k) ≡ collect_of d t c (length area)) × (area ≡ collect_area d c area)
  stranger_collects h t area =
      collect_refused d t c area 8 (λ q. omega arith) (collect_stranger d c (length area) (held_missing replies marks k c i e h))

  module _ (h : i < places) (l : length k.clients ≡ places) where
    -- What stands at the place.
    abbrev seat : Seat
    seat = slice_index_or k.clients i no_seat

    its_wait : seat.wait ≡ wait_of d c
    its_wait = held_wait replies marks k c i e h l

    waits : (w : Option Wait) → seat.wait ≡ w → is_some (wait_of d c) ≡ is_some w
    waits w f = ap (λ (v : Option Wait). is_some v) (sym its_wait ∙ f)

    pub idle_gives_up : seat.wait ≡ None → given_up_in replies marks (ended 10 k) ≡ give_up_of d c
    idle_gives_up f = sym (give_up_idle d c (held_known replies marks k c i e h) (waits None f))

    -- The place s is the client's, but for its wait.
    module _ (s : Seat) (q : (m : List Bool) → seated m s ≡ idled_of (seated m seat)) where
      pub gives_up : (w : Wait) → seat.wait ≡ Some w → given_up_in replies marks (ended 0 (with_seats k (slice_set k.clients i s))) ≡ give_up_of d c
      gives_up w f =
          let x = q (slice_index_or marks i []) ∙ ap idled_of (held_is replies marks k c i e h l) in
          ap (gave_up 0) (held_seat_put replies marks k c i e h s (idled_of (client_of d c)) x)
          ∙ sym (give_up_done d c (held_known replies marks k c i e h) (waits (Some w) f))

    -- A collect, with a lent area.
    module _ (t : ℕ) (area : List ℕ) where
      refused : (n : ℕ) → (n ≢ 0) → collect_refusal d c (length area) ≡ n
          → (collected_in replies marks (not_handed n k) ≡ collect_of d t c (length area)) × (area ≡ collect_area d c area)
      refused n z r = collect_refused d t c area n z r

      pub idle_collects : seat.wait ≡ None
          → (collected_in replies marks (not_handed 10 k) ≡ collect_of d t c (length area)) × (area ≡ collect_area d c area)
      idle_collects f = refused 10 (λ q. omega arith) (collect_idle d c (length area) (held_known replies marks k c i e h) (waits None f))

      -- The wait, the row of its PID, and the PID's mark.
      module _ (w : Wait) (f : seat.wait ≡ Some w) where
        abbrev pid : ℕ
        pid = w.pid

        abbrev out : Reply
        out = reply_in (slice_index_or replies pid [])

        abbrev mark : Bool
        mark = slice_index_or (slice_index_or marks i []) pid false

        known_wait : wait_of d c ≡ Some w
        known_wait = sym its_wait ∙ f

        came : (b : Bool) → mark ≡ b → fresh d c (awaited d c) ≡ b
        came b g = ap (λ (v : Option Wait). fresh d c (pid_in v)) known_wait ∙ sym (held_fresh replies marks k c i e h l pid) ∙ g

        its_reply : out ≡ awaited_reply d c
        its_reply = held_reply replies marks k pid ∙ ap (λ (v : Option Wait). stored d (pid_in v)) (sym known_wait)

        pub early_collects : mark ≡ false
            → (collected_in replies marks (not_handed 11 k) ≡ collect_of d t c (length area)) × (area ≡ collect_area d c area)
        early_collects g =
            refused 11 (λ q. omega arith) (collect_early d c (length area) (held_known replies marks k c i e h) (waits (Some w) f) (came false g))

        module _ (g : mark ≡ true) where
          fits : (b : Bool) → nat_lt (length area) (size_of out) ≡ b → nat_lt (length area) (size_of (awaited_reply d c)) ≡ b
          fits b o = ap (λ (r : Reply). ltb (length area) (size_of r)) (sym its_reply) ∙ o

          pub short_collects : ltb (length area) (size_of out) ≡ true
              → (collected_in replies marks (not_handed 14 k) ≡ collect_of d t c (length area)) × (area ≡ collect_area d c area)
          short_collects o =
              refused 14 (λ q. omega arith)
              (collect_short d c (length area) (held_known replies marks k c i e h) (waits (Some w) f) (came true g) (fits true o))

          -- The mark is taken, and the wait is over.
          abbrev row : List Bool
          row = slice_set (slice_index_or marks i []) pid false

          module _ (s : Seat) (q : (m : List Bool) → seated m s ≡ idled_of (seated m seat)) (j : i < length marks) where
            taken : desk_of replies (slice_set marks i row) (with_seats k (slice_set k.clients i s)) ≡ put_client d c (idled_of (taken_of pid (client_of d c)))
            taken =
                let x = q row ∙ ap idled_of (sym (taken_marks (slice_index_or marks i []) seat pid) ∙ ap (taken_of pid) (held_is replies marks k c i e h l)) in
                held_both_put replies marks k c i e h j row s (idled_of (taken_of pid (client_of d c))) x

            pub collects : ltb (length area) (size_of out) ≡ false → (n : ℕ) → n ≡ t - w.since
                → (collected_in replies (slice_set marks i row) (handed (with_seats k (slice_set k.clients i s)) pid n out) ≡ collect_of d t c (length area))
                × (filled_of out area ≡ collect_area d c area)
            collects o n r =
                let p = collect_done d t c area (collect_none d c (length area) (held_known replies marks k c i e h) (waits (Some w) f) (came true g) (fits false o)) in
                let u = ap (λ (y : Reply). collected_in replies (slice_set marks i row) (handed (with_seats k (slice_set k.clients i s)) pid n y)) (held_reply replies marks k pid) in (
                  u ∙ collected_is d _ t c w n known_wait r taken ∙ p.0,
                  ap (λ (y : Reply). filled_of y area) its_reply ∙ p.1,
                )
