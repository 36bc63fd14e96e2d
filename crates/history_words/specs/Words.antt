-- The words of the calls, as the page's table has them.
use Rattle.std.specs.Prelude.{List, ℕ, Option, Some, None}
use Rattle.base.specs.Choice.{pick}
use Rattle.base.specs.Letters.{letters}
use Rattle.text.specs.Cut.{same_of}
use Rattle.obd2.specs.declared.call.Call.TheVariants.{Register, Tick, TakeControl, ReconnectCheck, Begin, Next}
use Rattle.history_words.specs.declared.Word.{Word}
use Rattle.history_words.specs.declared.Word.TheVariants as word

abbrev pub next' : List ℕ
next' = letters "next"

abbrev pub result' : List ℕ
result' = letters "result"

abbrev pub response' : List ℕ
response' = letters "response"

abbrev pub ask' : List ℕ
ask' = letters "ask"

abbrev pub collect' : List ℕ
collect' = letters "collect"

abbrev pub waiting' : List ℕ
waiting' = letters "waiting"

abbrev pub consumed' : List ℕ
consumed' = letters "consumed"

abbrev pub take' : List ℕ
take' = letters "take"

abbrev pub begin' : List ℕ
begin' = letters "begin"

abbrev pub tick' : List ℕ
tick' = letters "tick"

abbrev pub register' : List ℕ
register' = letters "register"

abbrev pub leave' : List ℕ
leave' = letters "leave"

abbrev pub giveup' : List ℕ
giveup' = letters "giveup"

abbrev pub profiles' : List ℕ
profiles' = letters "profiles"

abbrev pub settings' : List ℕ
settings' = letters "settings"

abbrev pub connect' : List ℕ
connect' = letters "connect"

abbrev pub reconnect' : List ℕ
reconnect' = letters "reconnect"

abbrev pub start' : List ℕ
start' = letters "start"

abbrev pub show' : List ℕ
show' = letters "show"

unfoldable pub rare_of : List ℕ → Option Word
rare_of s =
    pick (same_of s tick') (Some (word.Bare Tick))
    (pick (same_of s register') (Some (word.Bare Register))
    (pick (same_of s leave') (Some word.Leave)
    (pick (same_of s giveup') (Some word.GiveUp)
    (pick (same_of s profiles') (Some word.Profiles)
    (pick (same_of s settings') (Some word.Settings)
    (pick (same_of s connect') (Some word.Connect)
    (pick (same_of s reconnect') (Some (word.Bare ReconnectCheck))
    (pick (same_of s start') (Some word.Start)
    None))))))))

unfoldable pub word_of : List ℕ → Option Word
word_of s =
    pick (same_of s next') (Some (word.Bare Next))
    (pick (same_of s result') (Some word.Outcome)
    (pick (same_of s response') (Some word.Response)
    (pick (same_of s ask') (Some word.Ask)
    (pick (same_of s collect') (Some word.Collect)
    (pick (same_of s waiting') (Some word.Waiting)
    (pick (same_of s consumed') (Some word.Consumed)
    (pick (same_of s take') (Some (word.Bare TakeControl))
    (pick (same_of s begin') (Some (word.Bare Begin))
    (rare_of s)))))))))
