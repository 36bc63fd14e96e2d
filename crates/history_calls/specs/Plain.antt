-- The calls that bring no list: what stands behind their time, token by token, as the page's table has it. A bad
-- token, one too many and one too few make the line bad: there is none then.
use Rattle.std.specs.Prelude.{List, ℕ, Option, Some, None}
use Rattle.std.specs.Option.{option_map, unwrap_or}
use Rattle.std.specs.Result.{result_ok}
use Rattle.base.specs.Choice.{pick}
use Rattle.numeral.specs.Decimal.{number_of}
use Rattle.hex_text.specs.Pairs.{pid_of, command_of, command_bytes}
use Rattle.obd2.specs.declared.call.Call.{Call}
use Rattle.obd2.specs.declared.call.Call.TheVariants as call
use Rattle.history_numbers.specs.Numbers.{word32_of, wait_of}
use Rattle.history_wishes.specs.Wishes.{settings_of}
use Rattle.history_items.specs.Items.{given}
use Rattle.history_items.specs.Tokens.{first_of, rest_of, none_of}
use Rattle.history_calls.specs.declared.Line.{Line}
use Rattle.history_calls.specs.declared.Line.TheVariants as line

abbrev pub Tokens : Type 0
Tokens = List (List ℕ)

-- A call behind which nothing more may stand.
unfoldable pub alone_of : ℕ → Call → Tokens → Option Line
alone_of t c ts = pick (none_of ts) (Some (line.Call t c 0 0)) None

-- CLIENT
unfoldable pub leave_of : ℕ → Tokens → Option Line
leave_of t ts = given (word32_of (first_of ts)) (λ n. alone_of t (call.Leave n) (rest_of ts))

unfoldable pub give_up_of : ℕ → Tokens → Option Line
give_up_of t ts = given (word32_of (first_of ts)) (λ n. alone_of t (call.GiveUp n) (rest_of ts))

-- PID
unfoldable pub waiting_of : ℕ → Tokens → Option Line
waiting_of t ts = given (pid_of (first_of ts)) (λ p. alone_of t (call.Waiting p) (rest_of ts))

-- SETTINGS
unfoldable pub set_of : ℕ → Tokens → Option Line
set_of t ts = given (settings_of (first_of ts)) (λ s. alone_of t (call.SetSettings s) (rest_of ts))

-- PID WAIT
unfoldable pub consumed_of : ℕ → Tokens → Option Line
consumed_of t ts =
    given (pid_of (first_of ts)) (λ p.
    given (wait_of (first_of (rest_of ts))) (λ w.
    alone_of t (call.Consumed p w) (rest_of (rest_of ts))))

-- CLIENT AREA
unfoldable pub collect_of : ℕ → Tokens → Option Line
collect_of t ts =
    given (word32_of (first_of ts)) (λ n.
    given (number_of 4096 (first_of (rest_of ts))) (λ a.
    pick (none_of (rest_of (rest_of ts))) (Some (line.Call t (call.Collect n) 0 a)) None))

-- CLIENT COMMAND AREA: what is made of a client and an area, behind which nothing more stands.
abbrev pub asked_of : {A : Type 0} → Tokens → (ℕ → ℕ → Option A) → Option A
asked_of ts f =
    given (word32_of (first_of ts)) (λ n.
    given (number_of 4096 (first_of (rest_of (rest_of ts)))) (λ a.
    pick (none_of (rest_of (rest_of (rest_of ts)))) (f n a) None))

-- The command's bytes stand at the start of the lent bytes, of which there are `room`.
unfoldable pub ask_of : ℕ → ℕ → Tokens → Option Line
ask_of room t ts = asked_of ts (λ n a. option_map (λ k. line.Call t (call.Ask n) k a) (result_ok (command_of room (first_of (rest_of ts)))))

-- What an ask leaves of the lent bytes d: they change where nothing but the command can be bad.
unfoldable pub ask_bytes : List ℕ → Tokens → List ℕ
ask_bytes d ts = unwrap_or (asked_of ts (λ n a. Some (command_bytes d (first_of (rest_of ts))))) d
