-- What a line means: what it asks for, and what calls have brought behind it. What is brought takes the place of what
-- the line of that name brought before; a bad line brings nothing. The rows are the page's (history-format.md, "Calls of
-- the box"); how the code reads them, in two stages, is in Lines and Stages.
use Rattle.std.specs.Prelude.{Bool, [], ◌∷◌, ℕ, Option, Some, None}
use Rattle.std.specs.Option.{option_map, option_map_or, unwrap_or}
use Rattle.base.specs.Choice.{pick}
use Rattle.numeral.specs.Decimal.{number_of}
use Rattle.config.specs.declared.Profiles.{Profiles}
use Rattle.reply.specs.declared.Response.{Response}
use Rattle.link.specs.declared.Session.{Session}
use Rattle.rounds.specs.declared.Outcome.{Outcome}
use Rattle.obd2.specs.declared.call.Call.{Call}
use Rattle.obd2.specs.declared.call.Call.TheVariants as call
use Rattle.obd2.specs.declared.call.Brought.{Brought}
use Rattle.history_items.specs.Items.{given}
use Rattle.history_items.specs.Tokens.{first_of, rest_of}
use Rattle.history_numbers.specs.Numbers.{flag_of}
use Rattle.history_wishes.specs.Wishes.{settings_of}
use Rattle.history_lists.specs.Lists.{profiles_of, response_of}
use Rattle.history_words.specs.Words.{word_of}
use Rattle.history_words.specs.declared.Word.{Word}
use Rattle.history_words.specs.declared.Word.TheVariants as word
use Rattle.history_calls.specs.Plain.{Tokens, alone_of, leave_of, give_up_of, waiting_of, set_of, consumed_of, collect_of, ask_of}
use Rattle.history_calls.specs.Bringing.{session_of, outcome_of}
use Rattle.history_calls.specs.declared.Line.{Line}
use Rattle.history_calls.specs.declared.Line.TheVariants as line
use Rattle.history.specs.Lines.{untimed_of, last}

-- `line` is none of a bad line, else `show`, the start or a call: nothing of it is left unread.
pub record Parsed : Type 0 where
  pub brought : Brought
  pub line : Option Line

abbrev pub with_profiles : Brought → Profiles → Brought
with_profiles b x = record { profiles = x; response = b.response; session = b.session; outcome = b.outcome }

abbrev pub with_response : Brought → Response → Brought
with_response b x = record { profiles = b.profiles; response = x; session = b.session; outcome = b.outcome }

abbrev pub with_session : Brought → Session → Brought
with_session b x = record { profiles = b.profiles; response = b.response; session = x; outcome = b.outcome }

abbrev pub with_outcome : Brought → Outcome → Brought
with_outcome b x = record { profiles = b.profiles; response = b.response; session = b.session; outcome = x }

abbrev pub parsed : Brought → Option Line → Parsed
parsed b l = record { brought = b; line = l }

-- A bad line, and what a line comes to that may be bad.
abbrev pub bare : Brought → Parsed
bare b = parsed b None

abbrev pub or_bare : Brought → Option Parsed → Parsed
or_bare b p = unwrap_or p (bare b)

abbrev pub called : Brought → ℕ → Call → Parsed
called b t c = parsed b (Some (line.Call t c 0 0))

-- SETTINGS PROFILE..
unfoldable pub start_of : Brought → ℕ → Tokens → Parsed
start_of b t ts =
    or_bare b
    (given (settings_of (first_of ts)) (λ s. option_map (λ x. parsed (with_profiles b x) (Some (line.Start t s))) (profiles_of (rest_of ts))))

-- PROFILE..
unfoldable pub changed_of : Brought → ℕ → Tokens → Parsed
changed_of b t ts = or_bare b (option_map (λ x. called (with_profiles b x) t call.ProfilePidsChanged) (profiles_of ts))

-- REPLY..
unfoldable pub answered_of : Brought → ℕ → Tokens → Parsed
answered_of b t ts = or_bare b (option_map (λ x. called (with_response b x) t call.Response) (response_of ts))

-- KNOWN STATE and eight RANGEs
unfoldable pub connected_of : Brought → ℕ → Tokens → Parsed
connected_of b t ts = or_bare b (option_map (λ x. called (with_session b x) t call.Connect) (session_of ts))

-- 0, or 1 and those
unfoldable pub connect_of : Brought → ℕ → Tokens → Parsed
connect_of b t ts =
    or_bare b
    (option_map (λ made. pick made (connected_of b t (rest_of ts)) (parsed b (alone_of t call.ConnectFailed (rest_of ts)))) (flag_of (first_of ts)))

-- KIND STATE LEARNT..
unfoldable pub result_of : Bool → ℕ → Brought → ℕ → Tokens → Parsed
result_of due asked b t ts = or_bare b (option_map (λ x. called (with_outcome b x) t call.Result) (outcome_of due asked ts))

-- `room` is the number of the lent bytes.
module _ (due : Bool) (asked room : ℕ) (b : Brought) (t : ℕ) (ts : Tokens) where
  unfoldable pub timed_of : Word → Parsed
  timed_of (word.Bare c) = parsed b (alone_of t c ts)
  timed_of word.Outcome = result_of due asked b t ts
  timed_of word.Response = answered_of b t ts
  timed_of word.Ask = parsed b (ask_of room t ts)
  timed_of word.Collect = parsed b (collect_of t ts)
  timed_of word.Waiting = parsed b (waiting_of t ts)
  timed_of word.Consumed = parsed b (consumed_of t ts)
  timed_of word.Leave = parsed b (leave_of t ts)
  timed_of word.GiveUp = parsed b (give_up_of t ts)
  timed_of word.Profiles = changed_of b t ts
  timed_of word.Settings = parsed b (set_of t ts)
  timed_of word.Connect = connect_of b t ts
  timed_of word.Start = start_of b t ts

-- A line's tokens: its word, and the others.
unfoldable pub parsed_of : Bool → ℕ → ℕ → Brought → Tokens → Parsed
parsed_of due asked room b [] = bare b
parsed_of due asked room b (w ∷ ts) =
    option_map_or (λ t. or_bare b (option_map (timed_of due asked room b t (rest_of ts)) (word_of w))) (number_of last (first_of ts)) (parsed b (untimed_of w ts))
