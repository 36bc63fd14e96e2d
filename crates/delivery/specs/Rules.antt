-- What a response does (document 01, "Client cache", and refusal 3).
use Rattle.std.specs.Prelude.{Option, Some, Bool, true, false, ◌&&◌, ◌||◌, not, List, [], ◌∷◌, map, ℕ, zero, suc, ◌+◌, ◌/◌, min, ltb, leb, eqb, set, get_or, take, replicate}
use Rattle.base.specs.Choice.{pick}
use Rattle.base.specs.Each.{some_of}
use Rattle.base.specs.Refusal.{Rows, first_of}
use Rattle.clients.specs.Rules.{marked_of}
use Rattle.config.specs.declared.Profiles.{Profiles}
use Rattle.desk.specs.declared.Desk.{Desk}
use Rattle.reply.specs.Rules.{max_pids, no_reply, within_of}
use Rattle.reply.specs.declared.Reply.{Reply}
use Rattle.reply.specs.declared.Response.{Response}
use Rattle.triggers.specs.Rules.{switch_of, notice_of}
use Rattle.value.specs.Rules.{value_of}
use Rattle.delivery.specs.declared.Answered.{Answered}

-- The PID whose value is four times the revs.
abbrev pub rpm : ℕ
rpm = 12

unfoldable pub listed_of : ℕ → ℕ
listed_of count = min count max_pids

-- Each is at least as large as asked, and the next is asked to be above it.
unfoldable pub rising_from : ℕ → List ℕ → Bool
rising_from least [] = true
rising_from least (p ∷ ps) = leb least p && rising_from (p + 1) ps

unfoldable pub over : Reply → Bool
over r = not (within_of r)

-- Over 6 PIDs, PIDs not strictly rising, or a reply over the limits.
unfoldable pub unfit : Response → Bool
unfit r =
    ltb max_pids r.count
    || (not (rising_from 0 (take r.count r.pids)) || some_of over (take r.count r.replies))

abbrev pub response_rows : Response → Rows
response_rows r = (3, unfit r) ∷ []

unfoldable pub response_refusal : Response → ℕ
response_refusal r = first_of (response_rows r)

-- The revs after a value v of the PID p.
unfoldable pub revs_after : ℕ → ℕ → Option ℕ → Option ℕ
revs_after p v old = pick (eqb p rpm) (Some (v / 4)) old

-- The reply is stored, and fresh for every registered client.
unfoldable pub deliver_of : ℕ → Reply → ℕ → Desk → Desk
deliver_of p r v d =
    record { clients = map (marked_of p) d.clients; store = set d.store p r; given = d.given; revs = revs_after p v d.revs }

-- The PID at a place of a response, its reply, and the reply's value.
abbrev pub pid_at : Response → ℕ → ℕ
pid_at r i = get_or r.pids i 0

abbrev pub reply_at : Response → ℕ → Reply
reply_at r i = get_or r.replies i no_reply

abbrev pub value_at : Response → ℕ → ℕ
value_at r i = value_of (pid_at r i) (reply_at r i)

unfoldable pub turn_of : Response → ℕ → Answered → Answered
turn_of r i a =
    record {
      desk = deliver_of (pid_at r i) (reply_at r i) (value_at r i) a.desk;
      profiles = switch_of (pid_at r i) (value_at r i) a.profiles;
      refusal = a.refusal;
      values = set a.values i (value_at r i);
      notices = set a.notices i (notice_of (pid_at r i) (value_at r i) a.profiles);
    }

-- The k PIDs from place i on, in order.
unfoldable pub turns_of : ℕ → ℕ → Response → Answered → Answered
turns_of zero i r a = a
turns_of (suc k) i r a = turns_of k (suc i) r (turn_of r i a)

abbrev pub unanswered : ℕ → Desk → Profiles → Answered
unanswered n d ps = record { desk = d; profiles = ps; refusal = n; values = replicate max_pids 0; notices = replicate max_pids false }

unfoldable pub response_of : Desk → Profiles → Response → Answered
response_of d ps r =
    pick (eqb (response_refusal r) 0)
    (turns_of r.count 0 r (unanswered 0 d ps))
    (unanswered (response_refusal r) d ps)

-- The PID is among the k of a response from place i on; and its newest reply after them.
unfoldable pub arrives_in : ℕ → ℕ → Response → ℕ → Bool
arrives_in zero i r p = false
arrives_in (suc k) i r p = eqb (pid_at r i) p || arrives_in k (suc i) r p

unfoldable pub newest_in : ℕ → ℕ → Response → ℕ → Reply → Reply
newest_in zero i r p old = old
newest_in (suc k) i r p old = newest_in k (suc i) r p (pick (eqb (pid_at r i) p) (reply_at r i) old)

-- A reply for the PID comes by the response, and it is the newest one after it.
abbrev pub arrives : Response → ℕ → Bool
arrives r p = arrives_in r.count 0 r p

abbrev pub newest_of : Response → ℕ → Reply → Reply
newest_of r p old = newest_in r.count 0 r p old
