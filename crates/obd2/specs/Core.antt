-- The box as it is held: the lent arrays and what goes by value, put together as the box that the calls are said of.
use Rattle.std.specs.Prelude.{◌≡◌, ℕ, Bool, false, List, replicate, Ok, Err}
use Rattle.std.specs.Prelude.{Float}
use Rattle.std.proofs.Common.{ap, ◌∙◌}
use Rattle.control_line.specs.Rows.{line_of}
use Rattle.desk.specs.Core.{desk_of}
use Rattle.manager.specs.Rows.{manager_of}
use Rattle.poller.specs.Core.{Held, with_polled, with_ranges, poller_of}
use Rattle.poller.specs.State.{no_query}
use Rattle.poller.specs.declared.Query.{Query}
use Rattle.report.specs.Summary.{report_in, no_summary, none_in}
use Rattle.report.specs.declared.summary.Summary.{Summary}
use Rattle.refusal.specs.Number.{number_of}
use Rattle.refusal.specs.declared.Refusal.{Refusal}
use Rattle.obd2.specs.History.{refused}
use Rattle.obd2.specs.State.{at, no_details, lines_of, delivering, querying, answered}
use Rattle.obd2.specs.Answer.{Answered, Accepted, answer_of}
use Rattle.obd2.specs.declared.Details.{Details}
use Rattle.obd2.specs.declared.Said.{Said}
use Rattle.obd2.specs.declared.State.{State}
use Rattle.obd2.specs.declared.rest.Core.{Core}
use Rattle.obd2.specs.declared.rest.Notes.{Notes}
use Rattle.obd2.specs.declared.rest.Told.{Told}

-- What the host lends: the newest replies and the manager's table, a row for each PID; the clients' fresh marks, a row for
-- each place; the control line's places; the poller's arrays; and the PIDs and rates of a report.
pub record Lent : Type 0 where
  pub replies : List (List ℕ)
  pub marks : List (List Bool)
  pub table : List (List ℕ)
  pub slots : List (List ℕ)
  pub polling : Held
  pub pids : List ℕ
  pub rates : List Float

abbrev pub lent : List (List ℕ) → List (List Bool) → List (List ℕ) → List (List ℕ) → Held → List ℕ → List Float → Lent
lent replies marks table slots polling pids rates = record { replies = replies; marks = marks; table = table; slots = slots; polling = polling; pids = pids; rates = rates }

-- The same with other arrays of the desk, of the manager, of the poller, of the line and the lists, or of the desk and the ranges.
abbrev pub with_desk : Lent → List (List ℕ) → List (List Bool) → Lent
with_desk x replies marks = lent replies marks x.table x.slots x.polling x.pids x.rates

abbrev pub with_manager : Lent → List (List ℕ) → List (List ℕ) → List ℕ → List Float → Lent
with_manager x table slots pids rates = lent x.replies x.marks table slots x.polling pids rates

abbrev pub with_poller : Lent → Held → Lent
with_poller x polling = lent x.replies x.marks x.table x.slots polling x.pids x.rates

abbrev pub with_line : Lent → List (List ℕ) → List (List ℕ) → Lent
with_line x slots polled = lent x.replies x.marks x.table slots (with_polled x.polling polled) x.pids x.rates

abbrev pub with_asked : Lent → List (List ℕ) → List (List Bool) → List (List ℕ) → Lent
with_asked x replies marks ranges = lent replies marks x.table x.slots (with_ranges x.polling ranges) x.pids x.rates

-- THE BOX that the lent arrays and the rest are.
abbrev pub box_of : Lent → Core → State
box_of x k = record {
  desk = desk_of x.replies x.marks k.desk;
  manager = manager_of x.table k.manager;
  poller = poller_of x.polling k.poller;
  line = line_of x.slots k.line;
  profiles = k.profiles;
  settings = k.settings;
  time = k.time;
}

-- An answer, with the report that the lent numbers are.
abbrev pub details_of : Lent → Notes → Details
details_of x n = record {
  lines = n.lines;
  lengths = n.lengths;
  values = n.values;
  notices = n.notices;
  query = n.query;
  report = report_in x.pids x.rates n.summary;
}

abbrev pub answered_of : Lent → Told → Answered
answered_of x r = record { state = box_of x r.core; answer = answer_of r.answer; details = details_of x r.notes }

-- What stands beside an answer.
abbrev pub delivers : List ℕ → List Bool → Summary → Notes
delivers values notices s = record { lines = 0; lengths = replicate 8 0; values = values; notices = notices; query = no_query; summary = s }

abbrev pub reports : Summary → Notes
reports s = delivers (replicate 6 0) (replicate 6 false) s

abbrev pub no_notes : Notes
no_notes = reports no_summary

abbrev pub noted : ℕ → List ℕ → Notes
noted n lengths = record { lines = n; lengths = lengths; values = replicate 6 0; notices = replicate 6 false; query = no_query; summary = no_summary }

abbrev pub queries : Query → Notes
queries q = record { lines = 0; lengths = replicate 8 0; values = replicate 6 0; notices = replicate 6 false; query = q; summary = no_summary }

-- "an accepted call's time is kept"
abbrev pub at_time : Core → ℕ → Core
at_time k t = record { desk = k.desk; manager = k.manager; poller = k.poller; line = k.line; profiles = k.profiles; settings = k.settings; time = t }

abbrev pub refusing : Core → Refusal → Told
refusing k n = record { core = k; answer = Err n; notes = no_notes }

abbrev pub accepts : Core → ℕ → Said → Notes → Told
accepts k t said n = record { core = at_time k t; answer = Ok said; notes = n }

-- What a call's function answers, as the box's answer.
module _ (x : Lent) (k : Core) (r : Told) where
  pub refused_is : (n : Refusal) → r ≡ refusing k n → answered_of x r ≡ refused (box_of x k) (number_of n)
  refused_is n e = rw (e, none_in x.pids x.rates)

  -- The same by a number that a component told.
  pub refused_by : (n : Refusal) (m : ℕ) → number_of n ≡ m → r ≡ refusing k n → answered_of x r ≡ refused (box_of x k) m
  refused_by n m g e = refused_is n e ∙ ap (refused (box_of x k)) g

  module _ (t : ℕ) (said : Said) where
    pub accepted_is : (n : Notes) (d : Details) → details_of x n ≡ d → r ≡ accepts k t said n → answered_of x r ≡ answered (at (box_of x k) t) (Accepted said) d
    accepted_is n d f e = rw (e, f)

module _ (x : Lent) where
  pub no_notes_law : details_of x no_notes ≡ no_details
  no_notes_law = rw (none_in x.pids x.rates)

  pub notes_lines : (n : ℕ) (lengths : List ℕ) → details_of x (noted n lengths) ≡ lines_of n lengths
  notes_lines n lengths = rw (none_in x.pids x.rates)

  pub notes_query : (q : Query) → details_of x (queries q) ≡ querying q
  notes_query q = rw (none_in x.pids x.rates)
