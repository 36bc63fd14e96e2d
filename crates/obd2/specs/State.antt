-- The box's state: its setters, and the box that a start returns.
use Rattle.std.specs.Prelude.{ℕ, Bool, false, List, replicate}
use Rattle.config.specs.declared.Settings.{Settings}
use Rattle.config.specs.declared.Profiles.{Profiles}
use Rattle.control.specs.Outbox.{messages}
use Rattle.control_line.specs.Ring.{empty_line, push_all_of}
use Rattle.control_line.specs.declared.ControlLine.{ControlLine}
use Rattle.desk.specs.Rules.{start_desk}
use Rattle.desk.specs.declared.Desk.{Desk}
use Rattle.manager.specs.Calls.{start_of}
use Rattle.manager.specs.declared.Answer.{Answer as Managed}
use Rattle.poller.specs.State.{no_query}
use Rattle.poller.specs.State.{start_of as startPoller}
use Rattle.poller.specs.declared.Poller.{Poller}
use Rattle.poller.specs.declared.Query.{Query}
use Rattle.report.specs.Report.{no_report}
use Rattle.report.specs.declared.Report.{Report}
use Rattle.obd2.specs.declared.State.{State}
use Rattle.obd2.specs.Answer.{Answer}
use Rattle.obd2.specs.declared.Details.{Details}
use Rattle.obd2.specs.Answer.{Answered}

-- Setters, since antt has no record update. A part that is not set is as it was.
abbrev pub with_desk : State → Desk → State
with_desk s d = record { desk = d; manager = s.manager; poller = s.poller; line = s.line; profiles = s.profiles; settings = s.settings; time = s.time }

abbrev pub with_poller : State → Poller → State
with_poller s p = record { desk = s.desk; manager = s.manager; poller = p; line = s.line; profiles = s.profiles; settings = s.settings; time = s.time }

abbrev pub with_line : State → ControlLine → State
with_line s l = record { desk = s.desk; manager = s.manager; poller = s.poller; line = l; profiles = s.profiles; settings = s.settings; time = s.time }

abbrev pub with_settings : State → Settings → State
with_settings s x = record { desk = s.desk; manager = s.manager; poller = s.poller; line = s.line; profiles = s.profiles; settings = x; time = s.time }

-- "an accepted call's time is kept"
abbrev pub at : State → ℕ → State
at s t = record { desk = s.desk; manager = s.manager; poller = s.poller; line = s.line; profiles = s.profiles; settings = s.settings; time = t }

-- A manager's call: desk and profiles after it, the manager as it left it, and its messages behind those that wait.
unfoldable pub managed : State → Desk → Profiles → Managed → State
managed s d ps a = record {
  desk = d;
  manager = a.manager;
  poller = s.poller;
  line = push_all_of s.line (messages a.outbox);
  profiles = ps;
  settings = s.settings;
  time = s.time;
}

-- Beside an answer: nothing, or a reply's lines, a response's values and a report, a query.
abbrev pub no_details : Details
no_details = record { lines = 0; lengths = replicate 8 0; values = replicate 6 0; notices = replicate 6 false; query = no_query; report = no_report }

abbrev pub lines_of : ℕ → List ℕ → Details
lines_of n lengths = record { lines = n; lengths = lengths; values = replicate 6 0; notices = replicate 6 false; query = no_query; report = no_report }

abbrev pub delivering : List ℕ → List Bool → Report → Details
delivering values notices r = record { lines = 0; lengths = replicate 8 0; values = values; notices = notices; query = no_query; report = r }

abbrev pub reporting : Report → Details
reporting r = delivering (replicate 6 0) (replicate 6 false) r

abbrev pub querying : Query → Details
querying q = record { lines = 0; lengths = replicate 8 0; values = replicate 6 0; notices = replicate 6 false; query = q; report = no_report }

abbrev pub answered : State → Answer → Details → Answered
answered s a d = record { state = s; answer = a; details = d }

-- The box started at a time with settings and profiles.
unfoldable pub started : ℕ → Settings → Profiles → State
started t s ps =
    let m = start_of (record { profiles = ps; settings = s; now = t }) in
    record {
      desk = start_desk;
      manager = m.manager;
      poller = startPoller t;
      line = push_all_of empty_line (messages m.outbox);
      profiles = ps;
      settings = s;
      time = t;
    }
