use borrow.Author.Rules.{rules}
use borrow.Author.Tests.{not-false}
use native.Mathlib.Omega.{arith}
use mathlib.Core.Path.{sym, ◌∙◌}
use Rattle.std.specs.Prelude.{None, Option}
use Rattle.config.specs.declared.PidPriority.{PidPriority}
use lib.ListN.{length-set, get_or}
use Rattle.control.specs.Told.{told_none}
use Rattle.control.specs.Outbox.{send_none}
use Rattle.pid_table.specs.Entry.{speed}
use Rattle.passes.specs.Sweep.{entry_after, sweep_start}
use Rattle.passes.specs.Rows.{ledger_of, rows_end, column_near, pass_turn, pass_rest}
use Rattle.passes.proofs.rows.sweep.Goals as goal
use Rattle.passes.proofs.rows.sweep.Goals.{else-not-rests, then-not-rests+else-not-same_speed, then-not-rests+then-not-same_speed}

pub loop-i-init : goal.loop-i-init
loop-i-init c = let a = c.args in (search rules, sweep_start (entry_after a.pass a.terms) (ledger_of a.table.now a.outbox))

pub offset_bounds-table-column : goal.offset_bounds-table-column
offset_bounds-table-column c = let near = column_near _ _ c.column_of-column.ensures in omega arith

pub bounds-table-column : goal.bounds-table-column
bounds-table-column c = column_near _ _ c.column_of-column.ensures

pub loop-i-preserved : goal.loop-i-preserved
loop-i-preserved c =
    let s = c.args in
    let i = c.loop-i.i in
    let rows = c.loop-i.table in
    let o = c.loop-i.outbox in
    let inv = c.loop-i.invariant in
    let long = inv.0 in
    let wish : Option PidPriority = get_or c.wishes_for-wishes.result i None in
    let wanted = c.wishes_for-wishes.ensures i (omega arith) in
    elim c.if-not-rests.branch [
      | then-not-rests+then-not-same_speed w ↦ (
        rw w.table-is (simp length-set long),
        rw (w.table-is, w.outbox-is)
            (pass_turn s.pass s.terms i wish rows o (omega arith) wanted w.unpack-before.result w.entry_by-after.result w.pack.result w.told-outbox.result w.unpack-before.ensures w.entry_by-after.ensures w.pack.ensures w.told-outbox.ensures
            ∙ inv.1),
      )
      | then-not-rests+else-not-same_speed w ↦ let e = told_none i (speed w.unpack-before.result) (speed w.entry_by-after.result) (sym w.same_speed.ensures ∙ not-false w.same_speed.result w.if-not-same_speed.false-raw) in (
        rw w.table-is (simp length-set long),
        rw (w.table-is, w.outbox-is)
            (pass_turn s.pass s.terms i wish rows o (omega arith) wanted w.unpack-before.result w.entry_by-after.result w.pack.result o w.unpack-before.ensures w.entry_by-after.ensures w.pack.ensures (rw e (sym (send_none o)))
            ∙ inv.1),
      )
      | else-not-rests w ↦ (
        rw w.table-is long,
        rw (w.table-is, w.outbox-is)
            (pass_rest s.pass s.terms i wish rows o (omega arith) wanted (rw (← c.column_of-column.ensures) (sym c.rests.ensures ∙ not-false c.rests.result w.if-not-rests.false-raw))
            ∙ inv.1),
      )
    ]

pub returns : goal.returns
returns c =
    let s = c.args in
    let long = c.loop-i.invariant.0 in
    record {
      table_len = long;
      result_after = sym (rows_end (entry_after s.pass s.terms) c.loop-i.i c.loop-i.table c.loop-i.outbox (omega arith)) ∙ c.loop-i.invariant.1;
    }
