-- What a call reports: something exactly where maintenance was due, and then a list that is sorted and exact.
use Rattle.std.specs.Prelude.{true, ◌≡◌, ℕ, ◌-◌, ◌≤◌, length, get_or}
use Rattle.std.proofs.Common.{arith}
use Rattle.base.specs.Choice.{one, cases}
use Rattle.base.specs.Times.{times}
use Rattle.control.specs.declared.outbox.Outbox.{Outbox}
use Rattle.pid_table.specs.Entry.{nobody}
use Rattle.passes.specs.Sweep.{through, upkeep}
use Rattle.passes.specs.Laws.{through_length}
use Rattle.passes.specs.declared.Terms.{Terms}
use Rattle.report.specs.Rates.{listed_of, ratings}
use Rattle.report.specs.Report.{no_report, report_of}
use Rattle.report.specs.Sorted.{Sorted, Each, Right, pids, rates_sorted, rates_exact, rates_right}
use Rattle.manager.specs.Calls.{due_of, maintain_of, finish_of}
use Rattle.manager.specs.Cases.{finish_due, finish_not_due}
use Rattle.manager.specs.declared.Manager.{Manager}

module _ (m : Manager) (o : Outbox) (t : Terms) where
  pub finish_reports : (finish_of m o t).report.ran ≡ due_of m.last t.now
  unfolding maintain_of report_of no_report
  finish_reports = cases _ (due_of m.last t.now) (λ e. rw (finish_due m o t e, e)) (λ e. rw (finish_not_due m o t e, e))

module _ (m : Manager) (o : Outbox) (t : Terms) (w : length m.table ≡ 256) (e : due_of m.last t.now ≡ true) where
  wide : length (through t upkeep m.table) ≤ 256
  wide = let n = through_length t upkeep m.table in omega arith

  -- Highest first, equal rates by rising PID.
  pub report_sorted : Sorted (ratings (finish_of m o t).report.rates)
  unfolding maintain_of report_of
  report_sorted = rw (finish_due m o t e) (rates_sorted (through t upkeep m.table) (t.now - m.last) wide)

  -- Exactly the PIDs still tracked with a counted Consumed, each once.
  pub report_exact : (q : ℕ) → times q (pids (ratings (finish_of m o t).report.rates)) ≡ one (listed_of (get_or (through t upkeep m.table) q nobody))
  unfolding maintain_of report_of
  report_exact q = rw (finish_due m o t e) (rates_exact (through t upkeep m.table) (t.now - m.last) wide q)

  -- Each with its rate since the last maintenance or the start.
  pub report_right : Each (Right (through t upkeep m.table) (t.now - m.last)) (ratings (finish_of m o t).report.rates)
  unfolding maintain_of report_of
  report_right = rw (finish_due m o t e) (rates_right (through t upkeep m.table) (t.now - m.last) wide)
