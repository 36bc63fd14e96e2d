-- A call of the box with its arguments: document 01's 17, connect in its two outcomes, by the side that they are of. A
-- client's call changes the desk alone, one of the connection or of a round the poller alone.
use Rattle.std.specs.Prelude.{Option, ◌≡◌, ℕ, ◌<◌, ◌≤◌, List, [], ◌∷◌, length, slice_index_or}
use Rattle.base.specs.Bytes.{Bytes}
use Rattle.base.specs.Count.{most}
use Rattle.config.specs.declared.Profiles.{Profiles}
use Rattle.config.specs.declared.Settings.{Settings}
use Rattle.link.specs.declared.Session.{Session}
use Rattle.rounds.specs.declared.Outcome.{Outcome}
use Rattle.reply.specs.Rules.{no_reply}
use Rattle.reply.specs.declared.Response.{Response}

-- "The manager's calls are the four events below, response, register, leave and tick"; c is a client's number, p a PID.
pub data ManagerCall : Type 0 where
  Register : ManagerCall
  Leave : (c : ℕ) → ManagerCall
  Respond : (r : Response) → ManagerCall
  Changed : (ps : Profiles) → ManagerCall
  Waiting : (p : ℕ) → ManagerCall
  Consumed : (p : ℕ) (w : Option ℕ) → ManagerCall
  Tick : ManagerCall

-- A client's: cmd is a command's bytes, area what is lent for the answer.
pub data CacheCall : Type 0 where
  Ask : (c : ℕ) (cmd area : List ℕ) → CacheCall
  Collect : (c : ℕ) (area : List ℕ) → CacheCall
  GiveUp : (c : ℕ) → CacheCall

pub data LinkCall : Type 0 where
  Connect : (session : Session) → LinkCall
  Fail : LinkCall
  Check : LinkCall

pub data RoundCall : Type 0 where
  Begin : RoundCall
  Next : RoundCall
  Result : (o : Outcome) → RoundCall

-- Each with its time t.
pub data Call : Type 0 where
  manager : (t : ℕ) (c : ManagerCall) → Call
  cache : (t : ℕ) (c : CacheCall) → Call
  settings : (t : ℕ) (st : Settings) → Call
  take_control : (t : ℕ) → Call
  link : (t : ℕ) (c : LinkCall) → Call
  round : (t : ℕ) (c : RoundCall) → Call

abbrev pub time_of : Call → ℕ
time_of (manager t c) = t
time_of (cache t c) = t
time_of (settings t st) = t
time_of (take_control t) = t
time_of (link t c) = t
time_of (round t c) = t

-- The calls by document 01's names.
abbrev pub register : ℕ → Call
register t = manager t Register

abbrev pub leave : ℕ → ℕ → Call
leave t c = manager t (Leave c)

abbrev pub response : ℕ → Response → Call
response t r = manager t (Respond r)

abbrev pub profile_pids_changed : ℕ → Profiles → Call
profile_pids_changed t ps = manager t (Changed ps)

abbrev pub waiting : ℕ → ℕ → Call
waiting t p = manager t (Waiting p)

abbrev pub consumed : ℕ → ℕ → Option ℕ → Call
consumed t p w = manager t (Consumed p w)

abbrev pub tick : ℕ → Call
tick t = manager t Tick

abbrev pub ask : ℕ → ℕ → List ℕ → List ℕ → Call
ask t c cmd area = cache t (Ask c cmd area)

abbrev pub collect : ℕ → ℕ → List ℕ → Call
collect t c area = cache t (Collect c area)

abbrev pub give_up : ℕ → ℕ → Call
give_up t c = cache t (GiveUp c)

abbrev pub connect : ℕ → Session → Call
connect t session = link t (Connect session)

abbrev pub connect_failed : ℕ → Call
connect_failed t = link t Fail

abbrev pub reconnect_check : ℕ → Call
reconnect_check t = link t Check

abbrev pub begin : ℕ → Call
begin t = round t Begin

abbrev pub next : ℕ → Call
next t = round t Next

abbrev pub result : ℕ → Outcome → Call
result t o = round t (Result o)

-- What a caller can hand in: PIDs and a reply's bytes are bytes, a ratio has 32 bits and arrays have their lengths, since antt's
-- numbers and lists have no bounds of their own. Times, client numbers, commands, areas and other settings may be any.
pub record FitResponse (r : Response) : Type 0 where
  pub six : length r.pids ≡ 6
  pub small : Bytes r.pids
  pub replies : length r.replies ≡ 6
  pub bytes : (i : ℕ) → Bytes (slice_index_or r.replies i no_reply).bytes

abbrev pub FitSettings : Settings → Type 0
FitSettings st = st.ratio ≤ most

abbrev pub FitManager : ManagerCall → Type 0
FitManager Register = Unit {0}
FitManager (Leave c) = Unit {0}
FitManager (Respond r) = FitResponse r
FitManager (Changed ps) = length ps.list ≡ 16
FitManager (Waiting p) = p < 256
FitManager (Consumed p w) = p < 256
FitManager Tick = Unit {0}

abbrev pub Fit : Call → Type 0
Fit (manager t c) = FitManager c
Fit (cache t c) = Unit {0}
Fit (settings t st) = FitSettings st
Fit (take_control t) = Unit {0}
Fit (link t c) = Unit {0}
Fit (round t c) = Unit {0}

-- A list of calls as a caller can make it.
pub data Calls : List Call → Type 0 where
  none : Calls []
  more : {c : Call} {cs : List Call} → Fit c → Calls cs → Calls (c ∷ cs)

-- A start's settings and the calls after it, as a caller can make them.
pub record Made (st : Settings) (cs : List Call) : Type 0 where
  pub start : FitSettings st
  pub calls : Calls cs
