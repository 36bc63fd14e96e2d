-- A line with a time behind its word: what the word's row has behind it (history-format.md, "Calls of the box"), as far
-- as that is told before a list is read.
use Rattle.std.specs.Prelude.{List, ℕ, Option, Some}
use Rattle.history_words.specs.declared.Word.{Word}
use Rattle.history_words.specs.declared.Word.TheVariants as word
use Rattle.history_calls.specs.Plain.{Tokens, alone_of, leave_of, give_up_of, waiting_of, set_of, consumed_of, collect_of, ask_of, ask_bytes}
use Rattle.history_calls.specs.Bringing.{start_line, connect_line}
use Rattle.history_calls.specs.declared.Line.{Line}
use Rattle.history_calls.specs.declared.Line.TheVariants as line

-- `room` is the number of the lent bytes.
module _ (room : ℕ) (t : ℕ) (ts : Tokens) where
  unfoldable pub timed_line : Word → Option Line
  timed_line (word.Bare c) = alone_of t c ts
  timed_line word.Outcome = Some (line.Result t)
  timed_line word.Response = Some (line.Response t)
  timed_line word.Ask = ask_of room t ts
  timed_line word.Collect = collect_of t ts
  timed_line word.Waiting = waiting_of t ts
  timed_line word.Consumed = consumed_of t ts
  timed_line word.Leave = leave_of t ts
  timed_line word.GiveUp = give_up_of t ts
  timed_line word.Profiles = Some (line.Profiles t)
  timed_line word.Settings = set_of t ts
  timed_line word.Connect = connect_line t ts
  timed_line word.Start = start_line t ts

-- What it leaves of the lent bytes: an ask's command stands there.
unfoldable pub timed_bytes : List ℕ → Tokens → Word → List ℕ
timed_bytes d ts (word.Bare c) = d
timed_bytes d ts word.Outcome = d
timed_bytes d ts word.Response = d
timed_bytes d ts word.Ask = ask_bytes d ts
timed_bytes d ts word.Collect = d
timed_bytes d ts word.Waiting = d
timed_bytes d ts word.Consumed = d
timed_bytes d ts word.Leave = d
timed_bytes d ts word.GiveUp = d
timed_bytes d ts word.Profiles = d
timed_bytes d ts word.Settings = d
timed_bytes d ts word.Connect = d
timed_bytes d ts word.Start = d
