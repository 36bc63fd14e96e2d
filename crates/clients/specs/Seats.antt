-- The clients as they are held: each place's number and wait by value, the fresh marks as lent rows, a row for each place.
use Rattle.std.specs.Prelude.{Bool, true, false, List, [], ◌∷◌, map, ◌≡◌, ℕ, zero, suc, ◌+◌, ◌<◌, ◌≤◌, eqb, nat_lt, length, set, get_or, replicate, Option, MatchOption}
use Rattle.std.specs.List.{position, position_or_len}
use Rattle.std.proofs.Math.Path.{refl}
use Rattle.std.proofs.Common.{ap, sym, ◌∙◌, arith, ltb-true, ltb-false}
use Rattle.std.proofs.lemmas.List.{length-replicate, get_or-map, ext_get_or}
use Rattle.std.proofs.Math.ListN.{length-map}
use Rattle.std.proofs.lemmas.List.Recursion.{is_position_or_len}
use Rattle.base.specs.Choice.{pick, cases}
use Rattle.base.specs.Each.{each_of, each_step}
use Rattle.clients.specs.Rules.{places, idle, nobody, newcomer, place_of, seat_of, marked_of, taken_of}
use Rattle.clients.specs.declared.Client.{Client}
use Rattle.clients.specs.declared.seats.Seat.{Seat}

-- A client: its marks, and its number and wait.
abbrev pub seated : List Bool → Seat → Client
seated marks s = record { number = s.number; wait = s.wait; fresh = marks }

-- A place that has just been given, or freed with number 0; and what is found where there is no place.
abbrev pub new_seat : ℕ → Seat
new_seat n = record { number = n; wait = idle }

abbrev pub no_seat : Seat
no_seat = new_seat 0

-- The marks of a client for which no reply came yet.
unfoldable pub no_marks : List Bool
no_marks = replicate 256 false

-- THE CLIENTS that lent marks and places are.
unfoldable pub clients_of : List (List Bool) → List Seat → List Client
clients_of rows [] = []
clients_of [] (s ∷ seats) = seated [] s ∷ clients_of [] seats
clients_of (m ∷ rows) (s ∷ seats) = seated m s ∷ clients_of rows seats

pub clients_length : (rows : List (List Bool)) (seats : List Seat) → length (clients_of rows seats) ≡ length seats
unfolding clients_of
clients_length rows [] = refl
clients_length [] (s ∷ seats) = ap suc (clients_length [] seats)
clients_length (m ∷ rows) (s ∷ seats) = ap suc (clients_length rows seats)

pub client_at : (rows : List (List Bool)) (seats : List Seat) (i : ℕ) → i < length seats
    → get_or (clients_of rows seats) i nobody ≡ seated (get_or rows i []) (get_or seats i no_seat)
unfolding clients_of
client_at rows [] i h = let z : ⊥ = omega arith in absurd z
client_at [] (s ∷ seats) zero h = refl
client_at [] (s ∷ seats) (suc i) h = client_at [] seats i (omega arith)
client_at (m ∷ rows) (s ∷ seats) zero h = refl
client_at (m ∷ rows) (s ∷ seats) (suc i) h = client_at rows seats i (omega arith)

-- WHERE A NUMBER IS FOUND: at its place n, if that is one of the places.
abbrev pub Found : ℕ → Option ℕ → Type 0
Found n r = MatchOption r (places ≤ n) (λ i. (i ≡ n) × (i < places))

-- The first place that has a number is the number's place.
module _ (c : ℕ) where
  place_first : (seats : List Seat) → place_of (clients_of [] seats) c ≡ position_or_len (λ s. eqb s.number c) seats
  unfolding clients_of place_of
  place_first seats = is_position_or_len (λ xs. place_of (clients_of [] xs) c) (λ s. eqb s.number c) refl (λ s xs. let e : 1 + place_of (clients_of [] xs) c ≡ suc (place_of (clients_of [] xs) c) = omega arith in rw e refl) seats

  pub found_first : (seats : List Seat) → length seats ≡ places → Found (place_of (clients_of [] seats) c) (position (λ s. eqb s.number c) seats)
  found_first seats l = rw (place_first seats, l) (cases _ (nat_lt (position_or_len (λ s. eqb s.number c) seats) places)
      (λ e. rw e (refl, ltb-true _ places e))
      (λ e. rw e (ltb-false _ places e)))

-- A client is found by its number, whatever the marks are.
pub place_any : (rows : List (List Bool)) (seats : List Seat) (c : ℕ) → place_of (clients_of rows seats) c ≡ place_of (clients_of [] seats) c
unfolding clients_of place_of
place_any rows [] c = refl
place_any [] (s ∷ seats) c = refl
place_any (m ∷ rows) (s ∷ seats) c = ap (λ (n : ℕ). pick (eqb s.number c) 0 (suc n)) (place_any rows seats c)

pub seat_any : (rows : List (List Bool)) (seats : List Seat) (c : ℕ) → seat_of (clients_of rows seats) c ≡ seat_of (clients_of [] seats) c
unfolding seat_of
seat_any rows seats c = rw (place_any rows seats c)

-- Another place, other marks, or both.
pub set_seat : (rows : List (List Bool)) (seats : List Seat) (i : ℕ) (s : Seat)
    → clients_of rows (set seats i s) ≡ set (clients_of rows seats) i (seated (get_or rows i []) s)
unfolding clients_of
set_seat rows [] i s = refl
set_seat [] (x ∷ seats) zero s = refl
set_seat [] (x ∷ seats) (suc i) s = ap (λ (t : List Client). seated [] x ∷ t) (set_seat [] seats i s)
set_seat (m ∷ rows) (x ∷ seats) zero s = refl
set_seat (m ∷ rows) (x ∷ seats) (suc i) s = ap (λ (t : List Client). seated m x ∷ t) (set_seat rows seats i s)

pub set_both : (rows : List (List Bool)) (seats : List Seat) (i : ℕ) (m : List Bool) (s : Seat) → i < length rows
    → clients_of (set rows i m) (set seats i s) ≡ set (clients_of rows seats) i (seated m s)
unfolding clients_of
set_both rows [] i m s h = refl
set_both [] (x ∷ seats) i m s h = let z : ⊥ = omega arith in absurd z
set_both (n ∷ rows) (x ∷ seats) zero m s h = refl
set_both (n ∷ rows) (x ∷ seats) (suc i) m s h = ap (λ (t : List Client). seated n x ∷ t) (set_both rows seats i m s (omega arith))

pub set_marks : (rows : List (List Bool)) (seats : List Seat) (i : ℕ) (m : List Bool) → i < length rows
    → clients_of (set rows i m) seats ≡ set (clients_of rows seats) i (seated m (get_or seats i no_seat))
unfolding clients_of
set_marks rows [] i m h = refl
set_marks [] (x ∷ seats) i m h = let z : ⊥ = omega arith in absurd z
set_marks (n ∷ rows) (x ∷ seats) zero m h = refl
set_marks (n ∷ rows) (x ∷ seats) (suc i) m h = ap (λ (t : List Client). seated n x ∷ t) (set_marks rows seats i m (omega arith))

-- What the changes of a client are, by marks and place.
module _ (m : List Bool) (s : Seat) (p : ℕ) where
  pub marked_free : eqb s.number 0 ≡ true → marked_of p (seated m s) ≡ seated m s
  unfolding marked_of
  marked_free e = rw e

  pub marked_taken : eqb s.number 0 ≡ false → marked_of p (seated m s) ≡ seated (set m p true) s
  unfolding marked_of
  marked_taken e = rw e

  pub taken_marks : taken_of p (seated m s) ≡ seated (set m p false) s
  unfolding taken_of
  taken_marks = refl

pub newcomer_seated : (n : ℕ) → newcomer n ≡ seated no_marks (new_seat n)
unfolding newcomer no_marks
newcomer_seated n = refl

-- What is put back where it stood changes nothing.
pub put_back : {A : Type 0} (xs : List A) (i : ℕ) (d : A) → set xs i (get_or xs i d) ≡ xs
put_back [] i d = refl
put_back (x ∷ xs) zero d = refl
put_back {A = A} (x ∷ xs) (suc i) d = ap (λ (t : List A). x ∷ t) (put_back xs i d)

-- The marks of one place more, as a loop sets them.
module _ (p : ℕ) (rows : List (List Bool)) (seats : List Seat) (xs : List Client) (i : ℕ) (h : i < length seats) (k : length xs ≡ length seats)
    (e : clients_of rows seats ≡ each_of i (marked_of p) xs) where
  turn : set (clients_of rows seats) i (marked_of p (seated (get_or rows i []) (get_or seats i no_seat))) ≡ each_of (i + 1) (marked_of p) xs
  turn = rw (← client_at rows seats i h, e) (each_step (marked_of p) i xs nobody (omega arith))

  pub mark_taken : i < length rows → eqb (get_or seats i no_seat).number 0 ≡ false
      → clients_of (set rows i (set (get_or rows i []) p true)) seats ≡ each_of (i + 1) (marked_of p) xs
  mark_taken l f =
      set_marks rows seats i (set (get_or rows i []) p true) l
      ∙ ap (λ (x : Client). set (clients_of rows seats) i x) (sym (marked_taken (get_or rows i []) (get_or seats i no_seat) p f))
      ∙ turn

  pub mark_free : eqb (get_or seats i no_seat).number 0 ≡ true → clients_of rows seats ≡ each_of (i + 1) (marked_of p) xs
  mark_free f =
      sym (put_back (clients_of rows seats) i nobody)
      ∙ ap (λ (x : Client). set (clients_of rows seats) i x) (client_at rows seats i h ∙ sym (marked_free (get_or rows i []) (get_or seats i no_seat) p f))
      ∙ turn

-- Clients taken apart, and put together again.
abbrev pub seat_in : Client → Seat
seat_in x = record { number = x.number; wait = x.wait }

abbrev pub marks_in : Client → List Bool
marks_in x = x.fresh

pub together_again : (xs : List Client) → clients_of (map marks_in xs) (map seat_in xs) ≡ xs
unfolding clients_of
together_again [] = refl
together_again (x ∷ xs) = ap (λ (t : List Client). x ∷ t) (together_again xs)

-- Eight places with nobody in them.
unfoldable pub vacant_seats : List Seat
vacant_seats = replicate places no_seat

unfoldable pub blank_marks : List (List Bool)
blank_marks = replicate places no_marks

unfoldable pub nobodies : List Client
nobodies = replicate places (newcomer 0)

pub vacant_length : length vacant_seats ≡ places
unfolding vacant_seats
vacant_length = length-replicate places no_seat

pub blank_length : length blank_marks ≡ places
unfolding blank_marks
blank_length = length-replicate places no_marks

pub nobodies_length : length nobodies ≡ places
unfolding nobodies
nobodies_length = length-replicate places (newcomer 0)

pub start_clients : clients_of blank_marks vacant_seats ≡ nobodies
unfolding clients_of blank_marks vacant_seats nobodies newcomer no_marks
start_clients = refl

-- A list that has at each place what a function makes of another's entry there.
pub mapped : {A B : Type 0} (f : A → B) (xs : List A) (ys : List B) (d : A) (e : B) → length xs ≡ places → length ys ≡ places
    → ((i : ℕ) → i < places → get_or ys i e ≡ f (get_or xs i d))
    → ys ≡ map f xs
mapped f xs ys d e l m h =
    let n = length-map xs f in
    ext_get_or e ys (map f xs) (omega arith) (λ i k. h i (omega arith) ∙ sym (get_or-map f xs i d e (omega arith)))
