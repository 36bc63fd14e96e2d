-- A line as a call: its word, its time, and what the word's row has behind it (history-format.md, "Calls of the
-- box"), as far as that is told before a list is read. A line is its tokens, parted by one space.
use Rattle.std.specs.Prelude.{List, [], ◌∷◌, ℕ, Option, Some, None}
use Rattle.std.specs.Option.{option_map_or}
use Rattle.base.specs.Choice.{pick}
use Rattle.text.specs.Cut.{same_of}
use Rattle.numeral.specs.Decimal.{number_of}
use Rattle.config.specs.Blank.{no_profiles}
use Rattle.obd2.specs.declared.call.Brought.{Brought}
use Rattle.history_lists.specs.Lists.{no_response}
use Rattle.history_items.specs.Items.{given}
use Rattle.history_items.specs.Tokens.{first_of, rest_of, none_of}
use Rattle.history_words.specs.Words.{word_of, show'}
use Rattle.history_calls.specs.Plain.{Tokens}
use Rattle.history_calls.specs.Bringing.{no_session, no_outcome}
use Rattle.history_calls.specs.Timed.{timed_line, timed_bytes}
use Rattle.history_calls.specs.declared.Line.{Line}
use Rattle.history_calls.specs.declared.Line.TheVariants as line

-- What no call has brought yet.
unfoldable pub nothing_brought : Brought
nothing_brought = record { profiles = no_profiles; response = no_response; session = no_session; outcome = no_outcome }

-- A line without a time: `show`, "it is no call of the box".
unfoldable pub untimed_of : List ℕ → Tokens → Option Line
untimed_of w ts = pick (same_of w show') (pick (none_of ts) (Some line.Show) None) None

-- The largest time.
abbrev pub last : ℕ
last = 18446744073709551615

-- A line's tokens: its word, and the others. `room` is the number of the lent bytes.
unfoldable pub line_of : ℕ → Tokens → Option Line
line_of room [] = None
line_of room (w ∷ ts) = option_map_or (λ t. given (word_of w) (timed_line room t (rest_of ts))) (number_of last (first_of ts)) (untimed_of w ts)

unfoldable pub lent_of : List ℕ → Tokens → List ℕ
lent_of d [] = d
lent_of d (w ∷ ts) = option_map_or (λ t. option_map_or (timed_bytes d (rest_of ts)) (word_of w) d) (number_of last (first_of ts)) d

-- The tokens behind a line's word and its time.
unfoldable pub behind_time : Tokens → Tokens
behind_time ts = rest_of (rest_of ts)
