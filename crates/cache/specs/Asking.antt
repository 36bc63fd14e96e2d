-- Ask over lent replies and marks: its answer as that of `Rules`, case by case.
use Rattle.std.specs.Prelude.{Option, is_some, ◌≡◌, ℕ, ◌<◌, ◌≤◌, Bool, true, false, ltb, List, [], length, replicate, ◌≢◌, nat_lt, slice_index_or, slice_set}
use Rattle.std.proofs.Common.{ap, sym, ◌∙◌, arith}
use Rattle.clients.specs.Rules.{places, seat_of, taken_of, waiting_of}
use Rattle.clients.specs.Seats.{seated, no_seat, clients_of, taken_marks}
use Rattle.clients.specs.declared.Wait.{Wait}
use Rattle.clients.specs.declared.seats.Seat.{Seat}
use Rattle.desk.specs.Rules.{client_of, fresh, wait_of, stored, put_client}
use Rattle.desk.specs.Core.{desk_of, with_seats}
use Rattle.desk.specs.Held.{held_reply, held_missing, held_known, held_is, held_wait, held_fresh, held_seat_put, held_marks_put}
use Rattle.desk.specs.declared.Desk.{Desk}
use Rattle.desk.specs.declared.rest.Core.{Core}
use Rattle.reply.specs.Rules.{max_lines, empty_reply, size_of, filled_of}
use Rattle.reply.specs.Laws.{filled_empty}
use Rattle.reply.specs.Rows.{reply_in}
use Rattle.reply.specs.declared.Reply.{Reply}
use Rattle.cache.specs.Rules.{told_of, other_of, other_area, ask_refusal, ask_of, ask_area}
use Rattle.cache.specs.Cases.{other_stranger, other_short, other_none, other_refused, other_told, refusal_stranger, refusal_busy, refusal_short, refusal_none, refusal_wait, ask_refused, ask_told, after_reading, handed_reading, after_waiting, handed_waiting}
use Rattle.cache.specs.declared.Step.TheVariants.{ToCache}
use Rattle.cache.specs.declared.Answer.{Answer}
use Rattle.cache.specs.declared.Answer.TheVariants.{Unable, Reading, Waiting}
use Rattle.cache.specs.declared.Asked.{Asked}
use Rattle.cache.specs.declared.asking.Told.{Told}

-- An ask that is refused, and one that is answered.
abbrev pub not_told : ℕ → Core → Told
not_told n k = record { core = k; refusal = n; answer = Unable; lines = 0; lengths = replicate max_lines 0 }

abbrev pub told : Core → Answer → Reply → Told
told k a r = record { core = k; refusal = 0; answer = a; lines = r.lines; lengths = r.lengths }

-- THE ANSWER that it is, with the lent replies and marks.
abbrev pub asked_in : List (List ℕ) → List (List Bool) → Told → Asked
asked_in replies marks r =
    record { desk = desk_of replies marks r.core; refusal = r.refusal; answer = r.answer; lines = r.lines; lengths = r.lengths }

-- Client c, for whose place i was found.
module _ (replies : List (List ℕ)) (marks : List (List Bool)) (k : Core) (c i : ℕ) (e : i ≡ seat_of (clients_of [] k.clients) c) where
  abbrev d : Desk
  d = desk_of replies marks k

  -- An ask whose answer and reply are known already.
  module _ (a : Answer) (out : Reply) (area : List ℕ) where
    pub stranger_other : places ≤ i
        → (asked_in replies marks (not_told 8 k) ≡ other_of d c a out (length area)) × (area ≡ other_area d c out area)
    stranger_other h =
        other_refused d c a out area 8 (λ q. omega arith) (other_stranger d c out (length area) (held_missing replies marks k c i e h))

    module _ (h : i < places) where
      pub short_other : ltb (length area) (size_of out) ≡ true
          → (asked_in replies marks (not_told 14 k) ≡ other_of d c a out (length area)) × (area ≡ other_area d c out area)
      short_other o =
          other_refused d c a out area 14 (λ q. omega arith) (other_short d c out (length area) (held_known replies marks k c i e h) o)

      pub tells_other : ltb (length area) (size_of out) ≡ false
          → (asked_in replies marks (told k a out) ≡ other_of d c a out (length area)) × (filled_of out area ≡ other_area d c out area)
      tells_other o = other_told d c a out area (other_none d c out (length area) (held_known replies marks k c i e h) o)

  -- An ask for a PID.
  module _ (t p : ℕ) (area : List ℕ) where
    refused : (n : ℕ) → (n ≢ 0) → ask_refusal d c [] (ToCache p) (length area) ≡ n
        → (asked_in replies marks (not_told n k) ≡ ask_of d t c [] (ToCache p) (length area)) × (area ≡ ask_area d c [] (ToCache p) area)
    refused n z r = ask_refused d t c [] (ToCache p) area n z r

    pub stranger_asks : places ≤ i
        → (asked_in replies marks (not_told 8 k) ≡ ask_of d t c [] (ToCache p) (length area)) × (area ≡ ask_area d c [] (ToCache p) area)
    stranger_asks h = refused 8 (λ q. omega arith) (refusal_stranger d c [] p (length area) (held_missing replies marks k c i e h))

    module _ (h : i < places) (l : length k.clients ≡ places) where
      -- What stands at the place, the PID's row, and its mark.
      abbrev seat : Seat
      seat = slice_index_or k.clients i no_seat

      abbrev out : Reply
      out = reply_in (slice_index_or replies p [])

      abbrev mark : Bool
      mark = slice_index_or (slice_index_or marks i []) p false

      waits : (b : Bool) → is_some seat.wait ≡ b → is_some (wait_of d c) ≡ b
      waits b f = ap (λ (w : Option Wait). is_some w) (sym (held_wait replies marks k c i e h l)) ∙ f

      came : (b : Bool) → mark ≡ b → fresh d c p ≡ b
      came b g = sym (held_fresh replies marks k c i e h l p) ∙ g

      pub busy_asks : is_some seat.wait ≡ true
          → (asked_in replies marks (not_told 9 k) ≡ ask_of d t c [] (ToCache p) (length area)) × (area ≡ ask_area d c [] (ToCache p) area)
      busy_asks f = refused 9 (λ q. omega arith) (refusal_busy d c [] p (length area) (held_known replies marks k c i e h) (waits true f))

      module _ (f : is_some seat.wait ≡ false) where
        fits : (b : Bool) → nat_lt (length area) (size_of out) ≡ b → nat_lt (length area) (size_of (stored d p)) ≡ b
        fits b o = ap (λ (r : Reply). ltb (length area) (size_of r)) (sym (held_reply replies marks k p)) ∙ o

        pub short_asks : mark ≡ true → nat_lt (length area) (size_of out) ≡ true
            → (asked_in replies marks (not_told 14 k) ≡ ask_of d t c [] (ToCache p) (length area)) × (area ≡ ask_area d c [] (ToCache p) area)
        short_asks g o =
            refused 14 (λ q. omega arith)
            (refusal_short d c [] p (length area) (held_known replies marks k c i e h) (waits false f) (came true g) (fits true o))

        -- A fresh reply: its mark is taken.
        abbrev row : List Bool
        row = slice_set (slice_index_or marks i []) p false

        taken : i < length marks → desk_of replies (slice_set marks i row) k ≡ put_client d c (taken_of p (client_of d c))
        taken j =
            let x = sym (taken_marks (slice_index_or marks i []) seat p) ∙ ap (taken_of p) (held_is replies marks k c i e h l) in
            held_marks_put replies marks k c i e h j row (taken_of p (client_of d c)) x

        pub reads : mark ≡ true → nat_lt (length area) (size_of out) ≡ false → i < length marks
            → (asked_in replies (slice_set marks i row) (told k (Reading p) out) ≡ ask_of d t c [] (ToCache p) (length area))
            × (filled_of out area ≡ ask_area d c [] (ToCache p) area)
        reads g o j =
            let n = came true g in
            let r = ask_told d t c [] (ToCache p) area (refusal_none d c [] p (length area) (held_known replies marks k c i e h) (waits false f) n (fits false o)) in
            let u = ap (told_of (desk_of replies (slice_set marks i row) k) (Reading p)) (held_reply replies marks k p) in
            let v = ap (λ (y : Desk). told_of y (Reading p) (stored d p)) (taken j) in (
              u ∙ v ∙ after_reading d t c p [] n ∙ r.0,
              ap (λ (y : Reply). filled_of y area) (held_reply replies marks k p ∙ sym (handed_reading d t c p [] n)) ∙ r.1,
            )

        -- Else a wait begins: the place s is the client's, but for its wait.
        pub begins : (s : Seat) → ((m : List Bool) → seated m s ≡ waiting_of p t (seated m seat)) → mark ≡ false
            → (asked_in replies marks (told (with_seats k (slice_set k.clients i s)) (Waiting p) empty_reply) ≡ ask_of d t c [] (ToCache p) (length area))
            × (area ≡ ask_area d c [] (ToCache p) area)
        begins s q g =
            let n = came false g in
            let r = ask_told d t c [] (ToCache p) area (refusal_wait d c [] p (length area) (held_known replies marks k c i e h) (waits false f) n) in
            let x = q (slice_index_or marks i []) ∙ ap (waiting_of p t) (held_is replies marks k c i e h l) in
            let v = held_seat_put replies marks k c i e h s (waiting_of p t (client_of d c)) x in (
              ap (λ (y : Desk). told_of y (Waiting p) empty_reply) v ∙ after_waiting d t c p [] n ∙ r.0,
              sym (filled_empty area) ∙ ap (λ (y : Reply). filled_of y area) (sym (handed_waiting d t c p [] n)) ∙ r.1,
            )
