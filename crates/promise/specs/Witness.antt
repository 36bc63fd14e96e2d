-- The histories of the witnesses in proofs/Witness: the lists of profiles, the settings and the calls; and what each meets.
use Rattle.std.specs.Prelude.{None, Bool, true, false, ◌&&◌, List, [], ◌∷◌, map, ◌≡◌, ℕ, replicate}
use Rattle.config.specs.declared.Profile.{Profile}
use Rattle.config.specs.declared.Profiles.{Profiles}
use Rattle.config.specs.declared.Settings.{Settings}
use Rattle.link.specs.Rules.{no_ranges, unknown_features}
use Rattle.link.specs.declared.Session.{Session}
use Rattle.rounds.specs.Result.{nothing}
use Rattle.rounds.specs.declared.Kind.{Kind}
use Rattle.rounds.specs.declared.Kind.TheVariants.{Replied, TimedOut}
use Rattle.rounds.specs.declared.Outcome.{Outcome}
use Rattle.obd2.specs.Call.{Call, connect, begin, next, round, RoundCall, Begin, Next, Result, Made}
use Rattle.obd2.specs.History.{Event, happened}
use Rattle.round_robin.specs.Claim.{Seen, seen, Lasting, read, there, marks_after}
use Rattle.round_robin.specs.Marks.{open_over}
use Rattle.promise.specs.Statement.{settling, Ending}

abbrev pub profile : ℕ → ℕ → ℕ → Profile
profile kind pid priority = record { kind = kind; pid = pid; priority = priority; threshold = None; enabled = true }

-- PID 12 Fast, PID 5 Slow.
abbrev pub two : Profiles
two = record { list = profile 0 12 0 ∷ profile 1 5 1 ∷ replicate 14 (profile 0 0 0); count = 2 }

-- PID 5 and PID 15, both Slow.
abbrev pub overlays : Profiles
overlays = record { list = profile 1 5 1 ∷ profile 1 15 1 ∷ replicate 14 (profile 0 0 0); count = 2 }

-- Ratio mode, with a ratio of 2.
abbrev pub second : Settings
second = record { mode = 1; interval = 450; ratio = 2; promotion = 40; demotion = 2000; removal = 4000; multi = false; maxpids = 6 }

abbrev pub session : Session
session = record { features = unknown_features; ranges = no_ranges; known = replicate 256 false }

abbrev pub outcome : Kind → Outcome
outcome kind = record { kind = kind; features = unknown_features; learnt = replicate 6 nothing }

-- The list, with a round open and messages waiting, and the call that ends the round.
abbrev pub opening : List Call
opening = connect 1 session ∷ begin 2 ∷ []

abbrev pub closing : List Call
closing = next 3 ∷ []

-- The list behind which no message waits.
abbrev pub settled : Profiles → List Call
settled ps = settling 0 second ps opening closing

-- The calls of both histories. A `next` with no round open and a begin in an open one are refused; a result may be a timeout. Without
-- a fast query the second round ends at 12, and the last two calls are refused.
abbrev pub turns : List (ℕ × RoundCall)
turns =
    (3, Next)
    ∷ (4, Begin)
    ∷ (5, Next)
    ∷ (6, Begin)
    ∷ (7, Result (outcome TimedOut))
    ∷ (8, Next)
    ∷ (9, Begin)
    ∷ (10, Next)
    ∷ (11, Result (outcome Replied))
    ∷ (12, Next)
    ∷ (13, Result (outcome Replied))
    ∷ (14, Next)
    ∷ []

abbrev pub turn : ℕ × RoundCall → Call
turn x = round x.0 x.1

abbrev pub calls : List Call
calls = map turn turns

-- Whether the connection is up after each event.
abbrev pub all_up_in : Seen → List Event → Bool
all_up_in k [] = true
all_up_in k (e ∷ h) = (seen k e).up && all_up_in (seen k e) h

-- What a history meets: calls that a caller can make, a round that is open and ended, and what is to last.
pub record Met (ps : Profiles) : Type 0 where
  pub made : Made second opening
  pub opened : open_over false (marks_after 0 second ps opening) ≡ true
  pub ending : Ending 0 second ps opening closing
  pub lasting : Lasting (read 0 second ps (settled ps)) (happened (there 0 second ps (settled ps)) calls)
