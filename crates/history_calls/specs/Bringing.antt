-- The lines that bring a list: what such a line is, as far as that is told before its list is read, and what the
-- lists are. A bad list brings nothing: the line is bad.
use Rattle.std.specs.Prelude.{Bool, true, ℕ, eqb, Option, Some, None}
use Rattle.std.specs.Option.{option_map}
use Rattle.base.specs.Choice.{pick}
use Rattle.link.specs.Rules.{no_ranges, unknown_features}
use Rattle.link.specs.declared.Session.{Session}
use Rattle.rounds.specs.declared.Kind.TheVariants.{Replied}
use Rattle.rounds.specs.declared.Outcome.{Outcome}
use Rattle.obd2.specs.declared.call.Call.TheVariants as call
use Rattle.history_items.specs.Items.{given}
use Rattle.history_items.specs.Tokens.{first_of, rest_of}
use Rattle.history_numbers.specs.Numbers.{flag_of}
use Rattle.history_wishes.specs.Wishes.{settings_of}
use Rattle.history_session.specs.Session.{known_of, state_of, kind_of, none_known}
use Rattle.history_dongle.specs.Lists.{ranges_of, learnts_of, no_learnt}
use Rattle.history_calls.specs.Plain.{Tokens, alone_of}
use Rattle.history_calls.specs.declared.Line.{Line}
use Rattle.history_calls.specs.declared.Line.TheVariants as line

-- SETTINGS, and PROFILEs
unfoldable pub start_line : ℕ → Tokens → Option Line
start_line t ts = option_map (λ s. line.Start t s) (settings_of (first_of ts))

-- 0, or 1 and a session
unfoldable pub connect_line : ℕ → Tokens → Option Line
connect_line t ts = given (flag_of (first_of ts)) (λ made. pick made (Some (line.Connect t)) (alone_of t call.ConnectFailed (rest_of ts)))

-- What no line has brought yet.
unfoldable pub no_session : Session
no_session = record { features = unknown_features; ranges = no_ranges; known = none_known }

unfoldable pub no_outcome : Outcome
no_outcome = record { kind = Replied; features = unknown_features; learnt = no_learnt }

-- KNOWN STATE and eight RANGEs
unfoldable pub session_of : Tokens → Option Session
session_of ts =
    given (known_of (first_of ts)) (λ k.
    given (state_of (first_of (rest_of ts))) (λ m.
    option_map (λ r. record { features = record { multi = m }; ranges = r; known = k }) (ranges_of (rest_of (rest_of ts)))))

-- "one for each PID of the query that is due .. where none is due, any number is passed over"
unfoldable pub is_of : Bool → ℕ → ℕ → Bool
is_of due asked count = pick due (eqb count asked) true

-- KIND STATE LEARNT..
unfoldable pub outcome_of : Bool → ℕ → Tokens → Option Outcome
outcome_of due asked ts =
    given (kind_of (first_of ts)) (λ k.
    given (state_of (first_of (rest_of ts))) (λ m.
    given (learnts_of (rest_of (rest_of ts))) (λ r.
    pick (is_of due asked r.count) (Some (record { kind = k; features = record { multi = m }; learnt = r.learnt })) None)))
