-- Messages that name PIDs below a bound: a PID is a byte.
use Rattle.std.specs.Prelude.{List, [], ◌∷◌, ◌++◌, ℕ, ◌<◌}
use Rattle.base.specs.Choice.{cases}
use Rattle.control.specs.Speed.{Speed, fast, slow, untracked, named}
use Rattle.control.specs.Told.{same_speed, message_of, told_of}
use Rattle.control.specs.declared.DongleMessage.{DongleMessage}

unfoldable pub Named : ℕ → List DongleMessage → Type 0
Named n [] = Unit {0}
Named n (m ∷ ms) = (named m < n) × Named n ms

pub named_none : (n : ℕ) → Named n []
unfolding Named
named_none n = tt

pub named_more : (n : ℕ) (m : DongleMessage) (ms : List DongleMessage) → named m < n → Named n ms → Named n (m ∷ ms)
unfolding Named
named_more n m ms h k = (h, k)

pub named_first : (n : ℕ) (m : DongleMessage) (ms : List DongleMessage) → Named n (m ∷ ms) → named m < n
unfolding Named
named_first n m ms k = k.0

pub named_rest : (n : ℕ) (m : DongleMessage) (ms : List DongleMessage) → Named n (m ∷ ms) → Named n ms
unfolding Named
named_rest n m ms k = k.1

pub named_append : (n : ℕ) (ms ns : List DongleMessage) → Named n ms → Named n ns → Named n (ms ++ ns)
unfolding Named
named_append n [] ns h k = k
named_append n (m ∷ ms) ns h k = (h.0, named_append n ms ns h.1 k)

message_named : (p n : ℕ) (s : Speed) → p < n → named (message_of p s) < n
message_named p n fast h = h
message_named p n slow h = h
message_named p n untracked h = h

pub told_named : (n p : ℕ) (s t : Speed) → p < n → Named n (told_of p s t)
unfolding told_of
told_named n p s t h =
    cases _ (same_speed s t)
    (λ e. rw e (named_none n))
    (λ e. rw e (named_more n (message_of p t) [] (message_named p n t h) (named_none n)))
