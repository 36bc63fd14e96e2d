-- The manager over a table that is lent, as rows of numbers, with the report's numbers lent too: what they are together, and what
-- the functions' callees answer, put together to what the functions answer.
use Rattle.std.specs.Prelude.{Option, Bool, true, false, List, [], ◌≡◌, ℕ, ◌-◌, Float, get_or, set, replicate}
use Rattle.std.proofs.Math.Path.{refl, ap, sym}
use Rattle.std.proofs.Common.{◌∙◌}
use Rattle.base.specs.Choice.{pick}
use Rattle.control.specs.Outbox.{empty_of, send_all, send_none}
use Rattle.control.specs.Told.{told_of}
use Rattle.control.specs.declared.outbox.Outbox.{Outbox}
use Rattle.pid_table.specs.Entry.{nobody, speed}
use Rattle.pid_table.specs.Rows.{info_of, table_of, no_row, table_at, table_set, table_absent}
use Rattle.pid_table.specs.declared.PidInfo.{PidInfo}
use Rattle.passes.specs.Rows.{ledger_of}
use Rattle.passes.specs.Sweep.{entry_after, sweep_of, sweeps_of, upkeep}
use Rattle.passes.specs.declared.Ledger.{Ledger}
use Rattle.passes.specs.declared.Pass.TheVariants.{Register, Clear}
use Rattle.passes.specs.declared.Terms.{Terms}
use Rattle.report.specs.Metrics.{no_metrics, noted_of as counted_of}
use Rattle.report.specs.Report.{no_report, report_of}
use Rattle.report.specs.Summary.{no_summary, report_in, none_in}
use Rattle.report.specs.declared.Report.{Report}
use Rattle.report.specs.declared.metrics.CacheMetrics.{CacheMetrics}
use Rattle.report.specs.declared.summary.Summary.{Summary}
use Rattle.manager.specs.Calls.{due_of, maintain_of, finish_of, no_table, register_of, start_of, entry_set, entry_told, waiting_at, consumed_at, after, sent, noted_of, handle_of}
use Rattle.manager.specs.Cases.{register_is, maintain_is, finish_due, finish_not_due}
use Rattle.manager.specs.declared.Manager.{Manager}
use Rattle.manager.specs.declared.Event.{Event}
use Rattle.manager.specs.declared.Event.TheVariants.{ProfilePidsChanged, Waiting, Consumed, Nothing}
use Rattle.manager.specs.declared.Noted.{Noted}
use Rattle.manager.specs.declared.Answer.{Answer}
use Rattle.manager.specs.declared.rows.Core.{Core}
use Rattle.manager.specs.declared.rows.Kept.{Kept}
use Rattle.manager.specs.declared.rows.Handled.{Handled}

-- THE MANAGER that the rows and the rest are.
unfoldable pub manager_of : List (List ℕ) → Core → Manager
manager_of rows c = record { table = table_of rows; metrics = c.metrics; last = c.last }

-- What an event left and sent.
unfoldable pub noted_in : List (List ℕ) → Kept → Noted
noted_in rows k = record { manager = manager_of rows k.core; outbox = k.outbox }

-- WHAT A CALL LEFT, sent and reported: by the rows, the report's numbers and the rest.
unfoldable pub answer_of : List (List ℕ) → List ℕ → List Float → Handled → Answer
answer_of rows ps rs h = record { manager = manager_of rows h.core; outbox = h.outbox; report = report_in ps rs h.summary }

-- ---- their parts

module _ (rows : List (List ℕ)) (c : Core) where
  pub manager_table : (manager_of rows c).table ≡ table_of rows
  unfolding manager_of
  manager_table = refl

  pub manager_metrics : (manager_of rows c).metrics ≡ c.metrics
  unfolding manager_of
  manager_metrics = refl

  pub manager_last : (manager_of rows c).last ≡ c.last
  unfolding manager_of
  manager_last = refl

module _ (rows : List (List ℕ)) (ps : List ℕ) (rs : List Float) (h : Handled) where
  pub answer_manager : (answer_of rows ps rs h).manager ≡ manager_of rows h.core
  unfolding answer_of
  answer_manager = refl

  pub answer_outbox : (answer_of rows ps rs h).outbox ≡ h.outbox
  unfolding answer_of
  answer_outbox = refl

  pub answer_report : (answer_of rows ps rs h).report ≡ report_in ps rs h.summary
  unfolding answer_of
  answer_report = refl

-- ---- the events

pub register_rows_law : (t : Terms) (rows : List (List ℕ)) → sweep_of (entry_after Register t) (ledger_of rows empty_of) ≡ register_of t (table_of rows)
unfolding ledger_of
register_rows_law t rows = register_is t (table_of rows)

module _ (rows : List (List ℕ)) (c : Core) (t : Terms) where
  pub changed_is : (left : List (List ℕ)) (o : Outbox) → ledger_of left o ≡ register_of t (table_of rows)
      → noted_in left (record { core = c; outbox = o }) ≡ noted_of (manager_of rows c) t ProfilePidsChanged
  unfolding noted_in noted_of manager_of after sent register_of ledger_of
  changed_is left o e =
      ap (λ (l : Ledger). record { manager = record { table = l.table; metrics = c.metrics; last = c.last }; outbox = l.outbox }) e

  pub nothing_is : noted_in rows (record { core = c; outbox = empty_of }) ≡ noted_of (manager_of rows c) t Nothing
  unfolding noted_in noted_of after sent
  nothing_is = rw (send_none empty_of)

  -- One row made anew: x was the entry, and y is what it became.
  module _ (f : PidInfo → PidInfo) (p : ℕ) (x y : PidInfo) (r : List ℕ) (o : Outbox) (was : x ≡ info_of (get_or rows p [])) (is : y ≡ f x) (row : info_of r ≡ y)
      (told : o ≡ send_all empty_of (told_of p (speed x) (speed y))) where
    found : x ≡ get_or (table_of rows) p nobody
    found = was ∙ sym (table_at rows p)

    row_set : table_of (set rows p r) ≡ entry_set f p (table_of rows)
    unfolding entry_set
    row_set = rw (table_set rows p r, row, is, found)

    row_told : o ≡ send_all empty_of (entry_told f p (table_of rows))
    unfolding entry_told
    row_told = told ∙ rw (is, found)

    pub row_is : (m : CacheMetrics)
        → noted_in (set rows p r) (record { core = record { metrics = m; last = c.last }; outbox = o })
        ≡ record { manager = record { table = entry_set f p (table_of rows); metrics = m; last = c.last }; outbox = send_all empty_of (entry_told f p (table_of rows)) }
    unfolding noted_in manager_of
    row_is m = rw (row_set, row_told)

  pub waiting_is : (p : ℕ)
      → record { manager = record { table = entry_set (waiting_at t) p (table_of rows); metrics = c.metrics; last = c.last }; outbox = send_all empty_of (entry_told (waiting_at t) p (table_of rows)) }
      ≡ noted_of (manager_of rows c) t (Waiting p)
  unfolding noted_of manager_of after sent
  waiting_is p = refl

  pub consumed_is : (p : ℕ) (w : Option ℕ)
      → record { manager = record { table = entry_set (consumed_at t w) p (table_of rows); metrics = counted_of c.metrics w; last = c.last }; outbox = send_all empty_of (entry_told (consumed_at t w) p (table_of rows)) }
      ≡ noted_of (manager_of rows c) t (Consumed p w)
  unfolding noted_of manager_of after sent
  consumed_is p w = refl

-- ---- the calls

pub start_is : (t : Terms) (rows : List (List ℕ)) (o : Outbox) (ps : List ℕ) (rs : List Float) → ledger_of rows o ≡ register_of t (table_of (replicate 256 no_row))
    → answer_of rows ps rs (record { core = record { metrics = no_metrics; last = t.now }; outbox = o; summary = no_summary }) ≡ start_of t
unfolding answer_of manager_of ledger_of start_of no_table
start_is t rows o ps rs e =
    let k = e ∙ ap (register_of t) (table_absent 256) in
    rw (none_in ps rs)
    (ap (λ (l : Ledger). record { manager = record { table = l.table; metrics = no_metrics; last = t.now }; outbox = l.outbox; report = no_report }) k)

pub report_ran : (rep : Report) (xs : List PidInfo) (m : CacheMetrics) (n : ℕ) → rep ≡ report_of xs m n → rep.ran ≡ true
unfolding report_of
report_ran rep xs m n g = ap (λ (r : Report). r.ran) g

module _ (rows : List (List ℕ)) (c : Core) (o : Outbox) (t : Terms) (ps : List ℕ) (rs : List Float) where
  pub maintained : (kept left : List (List ℕ)) (q s : Outbox) (rep : Report) (u : Summary)
      → ledger_of kept q ≡ sweeps_of t upkeep (ledger_of rows o) → ledger_of left s ≡ sweep_of (entry_after Clear t) (ledger_of kept q)
      → rep ≡ report_of (table_of kept) c.metrics (t.now - c.last) → report_in ps rs u ≡ pick rep.ran rep no_report
      → answer_of left ps rs (record { core = record { metrics = no_metrics; last = t.now }; outbox = s; summary = u }) ≡ maintain_of (manager_of rows c) o t
  unfolding answer_of manager_of ledger_of
  maintained kept left q s rep u e f g h =
      rw (h ∙ ap (λ (b : Bool). pick b rep no_report) (report_ran rep (table_of kept) c.metrics (t.now - c.last) g))
      (maintain_is (record { table = table_of rows; metrics = c.metrics; last = c.last }) o t (record { table = table_of kept; outbox = q }) (record { table = table_of left; outbox = s }) rep e f g)

  pub ends_not_due : due_of c.last t.now ≡ false → answer_of rows ps rs (record { core = c; outbox = o; summary = no_summary }) ≡ finish_of (manager_of rows c) o t
  unfolding answer_of manager_of
  ends_not_due e = rw (none_in ps rs) (sym (finish_not_due (record { table = table_of rows; metrics = c.metrics; last = c.last }) o t e))

-- An answer that is maintenance's is that of a call's end where maintenance is due; one that is that of the end is the call's.
module _ (rows : List (List ℕ)) (c : Core) (t : Terms) (a : Answer) where
  pub ends_due : (o : Outbox) → due_of c.last t.now ≡ true → a ≡ maintain_of (manager_of rows c) o t → a ≡ finish_of (manager_of rows c) o t
  unfolding manager_of
  ends_due o e f = f ∙ sym (finish_due (record { table = table_of rows; metrics = c.metrics; last = c.last }) o t e)

  pub handled : (left : List (List ℕ)) (k : Kept) (e : Event) → noted_in left k ≡ noted_of (manager_of rows c) t e
      → a ≡ finish_of (manager_of left k.core) k.outbox t → a ≡ handle_of (manager_of rows c) t e
  unfolding noted_in noted_of handle_of
  handled left k e f g = g ∙ ap (λ (n : Noted). finish_of n.manager n.outbox t) f
