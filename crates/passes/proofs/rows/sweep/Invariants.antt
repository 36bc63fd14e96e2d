use mathlib.Core.Path.{◌≡◌}
use lib.ListN.{length}
use Rattle.passes.specs.Sweep.{entry_after, sweep_of, sweep_from}
use Rattle.passes.specs.Rows.{ledger_of}
use Rattle.passes.proofs.rows.sweep.Given as goal

abbrev pub invariant-loop-i : goal.invariant-loop-i
invariant-loop-i l = (length l.table ≡ 256) × (sweep_from (entry_after l.pass l.terms) l.i (ledger_of l.table l.outbox) ≡ sweep_of (entry_after l.pass l.terms) (ledger_of l.initial.table l.initial.outbox))
