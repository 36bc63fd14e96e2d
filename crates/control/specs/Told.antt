-- One change, one message: a PID that becomes tracked, is dropped or changes its speed is named once, with its new speed.
use Rattle.std.specs.Prelude.{Bool, true, false, List, [], ◌∷◌, ◌≡◌, refl, ℕ, ◌≤◌, eqb, length}
use Rattle.std.proofs.Common.{arith, eq-eqb}
use Rattle.base.specs.Choice.{pick}
use Rattle.config.specs.declared.PidPriority.TheVariants.{Fast, Slow}
use Rattle.control.specs.Speed.{Speed, fast, slow, untracked, after, after_all}
use Rattle.control.specs.declared.DongleMessage.{DongleMessage}
use Rattle.control.specs.declared.DongleMessage.TheVariants.{SetPidPriority, RemovePid}

abbrev pub same_speed : Speed → Speed → Bool
same_speed fast fast = true
same_speed fast slow = false
same_speed fast untracked = false
same_speed slow fast = false
same_speed slow slow = true
same_speed slow untracked = false
same_speed untracked fast = false
same_speed untracked slow = false
same_speed untracked untracked = true

-- The message that gives p this speed.
abbrev pub message_of : ℕ → Speed → DongleMessage
message_of p fast = SetPidPriority p Fast
message_of p slow = SetPidPriority p Slow
message_of p untracked = RemovePid p

-- What is sent where p had the first speed and has the second.
unfoldable pub told_of : ℕ → Speed → Speed → List DongleMessage
told_of p s t = pick (same_speed s t) [] (message_of p t ∷ [])

pub told_same : (p : ℕ) (s : Speed) → told_of p s s ≡ []
unfolding told_of
told_same p fast = refl
told_same p slow = refl
told_same p untracked = refl

pub told_none : (p : ℕ) (s t : Speed) → same_speed s t ≡ true → told_of p s t ≡ []
unfolding told_of
told_none p s t e = rw e

pub told_length : (p : ℕ) (s t : Speed) → length (told_of p s t) ≤ 1
unfolding told_of
told_length p fast fast = omega arith
told_length p fast slow = omega arith
told_length p fast untracked = omega arith
told_length p slow fast = omega arith
told_length p slow slow = omega arith
told_length p slow untracked = omega arith
told_length p untracked fast = omega arith
told_length p untracked slow = omega arith
told_length p untracked untracked = omega arith

self : (p : ℕ) → eqb p p ≡ true
self p = eq-eqb p p refl

-- Whoever had the first speed has the second after it.
pub told_own : (p : ℕ) (s t : Speed) → after_all (told_of p s t) p s ≡ t
unfolding told_of after_all after
told_own p fast fast = refl
told_own p fast slow = rw (self p)
told_own p fast untracked = rw (self p)
told_own p slow fast = rw (self p)
told_own p slow slow = refl
told_own p slow untracked = rw (self p)
told_own p untracked fast = rw (self p)
told_own p untracked slow = rw (self p)
told_own p untracked untracked = refl

-- No other PID is touched.
pub told_other : (p q : ℕ) (s t u : Speed) → eqb p q ≡ false → after_all (told_of p s t) q u ≡ u
unfolding told_of after_all after
told_other p q fast fast u e = refl
told_other p q fast slow u e = rw e
told_other p q fast untracked u e = rw e
told_other p q slow fast u e = rw e
told_other p q slow slow u e = refl
told_other p q slow untracked u e = rw e
told_other p q untracked fast u e = rw e
told_other p q untracked slow u e = rw e
told_other p q untracked untracked u e = refl
