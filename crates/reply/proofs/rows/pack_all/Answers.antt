use Rattle.std.proofs.Common.{rules, arith, ◌≡◌, refl, ap, ◌∙◌, length, length-set}
use Rattle.base.specs.Each.{filled_more, filled_all}
use Rattle.reply.specs.Rows.{reply_in, store_of, stored_set, stored_length, blank_length}
use Rattle.reply.specs.Rules.{no_reply}
use Rattle.reply.proofs.rows.pack_all.Goals as goal

pub loop-i-init : goal.loop-i-init
loop-i-init c = (ap length c.blank-rows.ensures ∙ blank_length, refl)

pub loop-i-preserved : goal.loop-i-preserved
loop-i-preserved c =
    let store = c.args.store in
    let rows = c.loop-i.rows in
    let i = c.loop-i.i in
    let l : length store ≡ 256 = search rules in
    let long = c.loop-i.invariant.0 in
    let n = stored_length rows in (
      simp length-set long,
      rw (stored_set rows i c.pack.result) (filled_more (store_of rows) store i (reply_in c.pack.result) no_reply (omega arith) (omega arith) c.pack.ensures c.loop-i.invariant.1),
    )

pub returns : goal.returns
returns c =
    let store = c.args.store in
    let l : length store ≡ 256 = search rules in
    let n = stored_length c.loop-i.rows in
    filled_all (store_of c.loop-i.rows) store c.loop-i.i (omega arith) (omega arith) c.loop-i.invariant.1
