-- Manager and line after a call of the manager, if its messages have room.
use Rattle.std.specs.Prelude.{◌≡◌, ℕ, Bool, true, false, List}
use Rattle.std.proofs.Common.{ap, sym, ◌∙◌, arith, ltb-false, le-ltb}
use Rattle.std.specs.Prelude.{Float}
use Rattle.base.specs.Choice.{pick, cases, false_true}
use Rattle.control.specs.Outbox.{messages}
use Rattle.control_line.specs.Ring.{free_of, push_all_of}
use Rattle.control_line.specs.Rows.{line_of}
use Rattle.control_line.specs.declared.ControlLine.{ControlLine}
use Rattle.control_line.specs.declared.places.Ends.{Ends}
use Rattle.manager.specs.Calls.{handle_of}
use Rattle.manager.specs.Few.{handle_few}
use Rattle.manager.specs.Rows.{manager_of, answer_of}
use Rattle.manager.specs.declared.Event.{Event}
use Rattle.manager.specs.declared.Manager.{Manager}
use Rattle.manager.specs.declared.rows.Core.{Core}
use Rattle.manager.specs.declared.rows.Handled.{Handled}
use Rattle.obd2.specs.Refusals.{exceeds}
use Rattle.passes.specs.declared.Terms.{Terms}
use Rattle.report.specs.Report.{no_report}
use Rattle.report.specs.Summary.{report_in, no_summary, none_in, ran_in}
use Rattle.report.specs.declared.Report.{Report}
use Rattle.report.specs.declared.summary.Summary.{Summary}
use Rattle.manager_calls.specs.declared.Sent.{Sent as Held}

-- Manager and line after a call; as they were where the line has no room for its messages.
pub record Sent : Type 0 where
  pub refused : Bool
  pub manager : Manager
  pub line : ControlLine
  pub report : Report

-- THE SAME by the lent arrays and the rest.
abbrev pub sent_in : List (List ℕ) → List (List ℕ) → List ℕ → List Float → Held → Sent
sent_in table slots pids rates r =
    record { refused = r.refused; manager = manager_of table r.manager; line = line_of slots r.line; report = report_in pids rates r.summary }

unfoldable pub send_of : Manager → ControlLine → Terms → Event → Sent
send_of m l t e =
    let a = handle_of m t e in
    pick (exceeds l.count a.outbox.count)
    (record { refused = true; manager = m; line = l; report = no_report })
    (record { refused = false; manager = a.manager; line = push_all_of l (messages a.outbox); report = a.report })

-- Room for all that a call can send is room for what it sends.
pub room_enough : (waiting : ℕ) (m : Manager) (t : Terms) (e : Event) → exceeds waiting 257 ≡ false → exceeds waiting (handle_of m t e).outbox.count ≡ false
room_enough waiting m t e h =
    let r = ltb-false (free_of waiting) 257 h in
    let f = handle_few m t e in
    le-ltb (free_of waiting) (handle_of m t e).outbox.count (omega arith)

-- The two ways of a call, by lent arrays: nothing is touched, or the manager has handled it and its messages stand behind the others.
module _ (table slots : List (List ℕ)) (m : Core) (l : Ends) (t : Terms) (e : Event) where
  pub send_refused : (pids : List ℕ) (rates : List Float) → exceeds l.count (handle_of (manager_of table m) t e).outbox.count ≡ true
      → sent_in table slots pids rates (record { refused = true; manager = m; line = l; summary = no_summary }) ≡ send_of (manager_of table m) (line_of slots l) t e
  unfolding send_of line_of
  send_refused pids rates h = rw (h, none_in pids rates)

  pub send_done : (left held : List (List ℕ)) (pids : List ℕ) (rates : List Float) (r : Handled) (k : Ends)
      → exceeds l.count (handle_of (manager_of table m) t e).outbox.count ≡ false
      → answer_of left pids rates r ≡ handle_of (manager_of table m) t e
      → line_of held k ≡ push_all_of (line_of slots l) (messages r.outbox)
      → sent_in left held pids rates (record { refused = false; manager = r.core; line = k; summary = r.summary }) ≡ send_of (manager_of table m) (line_of slots l) t e
  unfolding send_of line_of answer_of
  send_done left held pids rates r k h f g = rw (h, ← f, g)

-- Where the line has no room, manager and line are as they were, and nothing is reported.
module _ (m : Manager) (l : ControlLine) (t : Terms) (e : Event) (x : Sent) (q : x ≡ send_of m l t e) (h : x.refused ≡ true) where
  no_room : exceeds l.count (handle_of m t e).outbox.count ≡ true
  unfolding send_of
  no_room = cases _ (exceeds l.count (handle_of m t e).outbox.count) (λ f. f) (λ f. let z = rw (q, f) at h in false_true z)

  pub back_manager : x.manager ≡ m
  unfolding send_of
  back_manager = rw (q, no_room)

  pub back_line : x.line ≡ l
  unfolding send_of
  back_line = rw (q, no_room)

  pub back_report : x.report ≡ no_report
  unfolding send_of
  back_report = rw (q, no_room)

-- A call that reports nothing ran no maintenance.
pub no_ran : (pids : List ℕ) (rates : List Float) (y : Summary) → report_in pids rates y ≡ no_report → y.ran ≡ false
unfolding no_report
no_ran pids rates y e = sym (ran_in pids rates y) ∙ ap (λ (r : Report). r.ran) e
