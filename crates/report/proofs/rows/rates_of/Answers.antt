use native.Mathlib.Omega.{arith}
use Prim.Native.Nat.{◌-◌}
use mathlib.Core.Path.{◌≡◌, ap, sym, ◌∙◌}
use lib.ListN.{length}
use Rattle.pid_table.specs.Entry.{nobody}
use Rattle.pid_table.specs.Rows.{table_of, table_at, table_length}
use Rattle.report.specs.Rates.{rates_from, rates_turn, rates_end, add_listed, add_unlisted}
use Rattle.report.proofs.rows.rates_of.Goals as goal
use Rattle.report.proofs.rows.rates_of.Goals.{else-listed, then-listed}

pub loop-i-init : goal.loop-i-init
loop-i-init c =
    ap (rates_from c.args.elapsed 0 (table_of c.args.table.now)) c.no_rates-found.ensures

pub loop-i-preserved : goal.loop-i-preserved
loop-i-preserved c =
    let s = c.args in
    let inv = c.loop-i.invariant in
    let rows = s.table.now in
    let i = c.loop-i.i in
    let u = c.unpack-info.ensures in
    let n = table_length rows in
    let h : length rows ≡ 256 = c.requires in
    let k = sym (rates_turn s.elapsed (table_of rows) i nobody c.loop-i.found (omega arith)) ∙ inv in
    let v = rw (table_at rows i, sym u) at k in
    let e = c.listed.ensures in
    elim c.if-listed.branch [ then-listed w ↦ (rw (w.found-is, w.insert-found.ensures, w.rate-rate.ensures) (rw (add_listed s.elapsed i c.unpack-info.result c.loop-i.found (sym e ∙ w.if-listed.true)) at v)) | else-listed w ↦ (rw w.found-is (rw (add_unlisted s.elapsed i c.unpack-info.result c.loop-i.found (sym e ∙ w.if-listed.false)) at v)) ]

pub returns : goal.returns
returns c =
    let s = c.args in
    let h : length s.table.now ≡ 256 = c.requires in
    let n = table_length s.table.now in
    sym (rates_end s.elapsed (table_of s.table.now) c.loop-i.i c.loop-i.found (omega arith)) ∙ c.loop-i.invariant
