-- What the functions' callees answer, put together to what the functions answer.
use Rattle.std.specs.Prelude.{List, ◌≡◌, true, false, ◌-◌}
use Rattle.std.proofs.Math.Path.{ap}
use Rattle.std.proofs.Common.{◌∙◌}
use Rattle.control.specs.Outbox.{empty_of, send_all}
use Rattle.control.specs.declared.outbox.Outbox.{Outbox}
use Rattle.pid_table.specs.declared.PidInfo.{PidInfo}
use Rattle.passes.specs.Sweep.{entry_after, sweep_of, through, news, sweeps_of, upkeep}
use Rattle.passes.specs.Laws.{sweeps_are}
use Rattle.passes.specs.declared.Ledger.{Ledger}
use Rattle.passes.specs.declared.Pass.TheVariants.{Register, Clear}
use Rattle.passes.specs.declared.Terms.{Terms}
use Rattle.report.specs.Metrics.{no_metrics}
use Rattle.report.specs.Report.{no_report, report_of}
use Rattle.report.specs.declared.Report.{Report}
use Rattle.manager.specs.Calls.{registering, maintenance, register_of, due_of, maintain_of, finish_of}
use Rattle.manager.specs.declared.Manager.{Manager}

abbrev ledger_of : List PidInfo → Outbox → Ledger
ledger_of xs o = record { table = xs; outbox = o }

pub register_is : (t : Terms) (xs : List PidInfo) → sweep_of (entry_after Register t) (ledger_of xs empty_of) ≡ register_of t xs
unfolding sweeps_of register_of
register_is t xs = sweeps_are t registering (ledger_of xs empty_of)

module _ (m : Manager) (o : Outbox) (t : Terms) where
  cleared_is : (l r : Ledger) → l ≡ sweeps_of t upkeep (ledger_of m.table o) → r ≡ sweep_of (entry_after Clear t) l
      → r ≡ ledger_of (through t maintenance m.table) (send_all o (news t maintenance m.table))
  unfolding sweeps_of
  cleared_is l r e f = f ∙ ap (sweep_of (entry_after Clear t)) e ∙ sweeps_are t maintenance (ledger_of m.table o)

  pub maintain_is : (l r : Ledger) (rep : Report) → l ≡ sweeps_of t upkeep (ledger_of m.table o) → r ≡ sweep_of (entry_after Clear t) l
      → rep ≡ report_of l.table m.metrics (t.now - m.last)
      → record { manager = record { table = r.table; metrics = no_metrics; last = t.now }; outbox = r.outbox; report = rep } ≡ maintain_of m o t
  unfolding maintain_of
  maintain_is l r rep e f g =
      let k = e ∙ sweeps_are t upkeep (ledger_of m.table o) in
      rw (cleared_is l r e f, g, k)

  pub finish_due : due_of m.last t.now ≡ true → finish_of m o t ≡ maintain_of m o t
  unfolding finish_of
  finish_due e = rw e

  pub finish_not_due : due_of m.last t.now ≡ false → finish_of m o t ≡ record { manager = m; outbox = o; report = no_report }
  unfolding finish_of
  finish_not_due e = rw e
