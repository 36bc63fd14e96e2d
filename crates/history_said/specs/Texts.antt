-- What the box's calls answer: history-format.md, "Calls of the box and their answers".
use Rattle.std.specs.Prelude.{None, Option, Some, ℕ, zero, suc, min, Bool, true, false, List, [], ◌∷◌, ◌++◌, take, ◌==◌, slice_index, slice_index_or}
use Rattle.base.specs.Choice.{pick}
use Rattle.base.specs.Letters.{letter, letters}
use Rattle.cache.specs.declared.Answer.{Answer as Asked}
use Rattle.cache.specs.declared.Answer.TheVariants as asked
use Rattle.config.specs.declared.PidPriority.{PidPriority}
use Rattle.config.specs.declared.PidPriority.TheVariants.{Fast, Slow}
use Rattle.control.specs.declared.DongleMessage.{DongleMessage}
use Rattle.control.specs.declared.DongleMessage.TheVariants.{SetPidPriority, RemovePid}
use Rattle.link.specs.declared.Connecting.{Connecting}
use Rattle.link.specs.declared.Connecting.TheVariants.{Connected, Failed, Already}
use Rattle.numeral.specs.Decimal.{decimal_text}
use Rattle.obd2.specs.Answer.{Answer}
use Rattle.obd2.specs.Answer.{Refused, Accepted}
use Rattle.obd2.specs.declared.Details.{Details}
use Rattle.obd2.specs.declared.Said.{Said}
use Rattle.obd2.specs.declared.Said.TheVariants as said
use Rattle.poller.specs.declared.Query.{Query}
use Rattle.reply.specs.Rules.{sum_of}
use Rattle.reply.specs.declared.Response.{Response}
use Rattle.rounds.specs.declared.Step.{Step}
use Rattle.rounds.specs.declared.Step.TheVariants.{Ask, End}
use Rattle.writing_pairs.specs.Pairs.{pid_text, bytes_text}
use Rattle.writing_lists.specs.Parted.{pids_text, numbers_text}

-- "LENS is the lines' lengths parted by commas, `-` for no lines; BYTES the lines joined, as they stand in the lent
-- area, `-` for no bytes": as many as the lengths come to, of the 64 that a reply has at most.
unfoldable pub held_of : ℕ → List ℕ → ℕ
held_of lines lengths = min (sum_of (take lines lengths)) 64

unfoldable pub lines_text : ℕ → List ℕ → List ℕ → List ℕ
lines_text lines lengths area = numbers_text (take lines lengths) ++ (letter " " ∷ bytes_text (take (held_of lines lengths) area))

-- `reading PID LENS BYTES`
unfoldable pub reading_text : ℕ → ℕ → List ℕ → List ℕ → List ℕ
reading_text p lines lengths area = letters "reading " ++ (pid_text p ++ (letter " " ∷ lines_text lines lengths area))

-- "`reading PID LENS BYTES WAIT`"
unfoldable pub collected_text : ℕ → ℕ → ℕ → List ℕ → List ℕ → List ℕ
collected_text p wait lines lengths area = reading_text p lines lengths area ++ (letter " " ∷ decimal_text wait)

-- `range LENS BYTES`
unfoldable pub range_text : ℕ → List ℕ → List ℕ → List ℕ
range_text lines lengths area = letters "range " ++ lines_text lines lengths area

-- "`set PID 0` (Fast), `set PID 1` (Slow), `remove PID`"
unfoldable pub digit_of : PidPriority → ℕ
digit_of Fast = letter "0"
digit_of Slow = letter "1"

unfoldable pub control_text : DongleMessage → List ℕ
control_text (SetPidPriority p s) = (letters "set " ++ pid_text p) ++ (letter " " ∷ digit_of s ∷ [])
control_text (RemovePid p) = letters "remove " ++ pid_text p

-- "`query PID,PID.. ECU` (ECU a count or `-`)"; a query has six places.
unfoldable pub ecu_text : ℕ → List ℕ
ecu_text n = pick (n == 0) (letters "-") (decimal_text n)

unfoldable pub query_text : Query → List ℕ
query_text q = letters "query " ++ (pids_text (take q.count q.pids) ++ (letter " " ∷ ecu_text q.ecu))

-- "for each PID `PID=VALUE`, with `!` behind it where the PID has a notice"
unfoldable pub mark_text : Bool → List ℕ
mark_text true = letters "!"
mark_text false = []

unfoldable pub value_text : ℕ → ℕ → Bool → List ℕ
value_text p v b = letter " " ∷ (pid_text p ++ (letter "=" ∷ (decimal_text v ++ mark_text b)))

-- So many of them from the place i on.
unfoldable pub values_from : ℕ → ℕ → List ℕ → List ℕ → List Bool → List ℕ
values_from i zero ps vs bs = []
values_from i (suc n) ps vs bs = value_text (slice_index ps i) (slice_index vs i) (slice_index_or bs i false) ++ values_from (suc i) n ps vs bs

-- "`ok`, then .."; a response has six places. Every other call brings a response with a count of 0.
unfoldable pub done_text : Details → Response → List ℕ
done_text d v = letters "ok" ++ values_from 0 (min v.count 6) v.pids d.values d.notices

-- What an ask is answered.
unfoldable pub asked_text : Asked → ℕ → List ℕ → List ℕ → List ℕ
asked_text asked.Unable lines lengths area = letters "unable"
asked_text asked.NoData lines lengths area = letters "nodata"
asked_text asked.Unknown lines lengths area = letters "unknown"
asked_text asked.Range lines lengths area = range_text lines lengths area
asked_text (asked.Reading p) lines lengths area = reading_text p lines lengths area
asked_text (asked.Waiting p) lines lengths area = letters "waiting " ++ pid_text p

-- What the poller takes off the control line.
unfoldable pub taken_text : Option DongleMessage → List ℕ
taken_text (Some m) = control_text m
taken_text None = letters "none"

-- How connecting went.
unfoldable pub connecting_text : Connecting → List ℕ
connecting_text Connected = letters "connected"
connecting_text Failed = letters "failed"
connecting_text Already = letters "already"

-- Whether a reconnect may be tried.
unfoldable pub check_text : Bool → List ℕ
check_text true = letters "yes"
check_text false = letters "no"

-- The query that is now due, or the round's end.
unfoldable pub step_text : Step → Query → List ℕ
step_text Ask q = query_text q
step_text (End n) q = letters "end " ++ decimal_text n

-- What an accepted call says, without its report.
unfoldable pub accepted_text : Said → Details → Response → List ℕ → List ℕ
accepted_text said.Started d v area = letters "started"
accepted_text said.Done d v area = done_text d v
accepted_text (said.Client n) d v area = letters "client " ++ decimal_text n
accepted_text (said.Asked a) d v area = asked_text a d.lines d.lengths area
accepted_text (said.Collected p wait) d v area = collected_text p wait d.lines d.lengths area
accepted_text said.GivenUp d v area = letters "nodata"
accepted_text (said.Taken m) d v area = taken_text m
accepted_text (said.Connecting c) d v area = connecting_text c
accepted_text (said.Check b) d v area = check_text b
accepted_text (said.Step s) d v area = step_text s d.query

-- What a call answers, without its report.
unfoldable pub said_text : Answer → Details → Response → List ℕ → List ℕ
said_text (Refused n) d v area = letters "refused " ++ decimal_text n
said_text (Accepted a) d v area = accepted_text a d v area
