use Rattle.std.proofs.Common.{rules, arith, ◌≡◌, refl, sym, ap, ◌∙◌, length, length-set}
use Rattle.base.specs.Each.{filled_more, filled_all}
use Rattle.reply.specs.Rows.{store_of, stored_at, stored_length, unknown_length}
use Rattle.reply.specs.Rules.{no_reply}
use Rattle.reply.proofs.rows.unpack_all.Goals as goal

pub loop-i-init : goal.loop-i-init
loop-i-init c = (ap length c.unknown-store.ensures ∙ unknown_length, refl)

pub loop-i-preserved : goal.loop-i-preserved
loop-i-preserved c =
    let rows = c.args.rows in
    let store = c.loop-i.store in
    let i = c.loop-i.i in
    let l : length rows ≡ 256 = search rules in
    let n = stored_length rows in
    let long = c.loop-i.invariant.0 in (
      simp length-set long,
      filled_more store (store_of rows) i c.unpack.result no_reply (omega arith) (omega arith) (c.unpack.ensures ∙ sym (stored_at rows i)) c.loop-i.invariant.1,
    )

pub returns : goal.returns
returns c =
    let rows = c.args.rows in
    let l : length rows ≡ 256 = search rules in
    let n = stored_length rows in
    filled_all c.loop-i.store (store_of rows) c.loop-i.i (omega arith) (omega arith) c.loop-i.invariant.1
