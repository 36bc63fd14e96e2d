-- `writing_pairs::pairs` meets its contract: at once, or, with no room for all of them, by a loop whose invariant is what is left of the bytes.
use Rattle.std.proofs.Common.{arith}
use Rattle.hex_text.specs.Laws.{text_length}
use Rattle.writing.specs.Added.{added_whole, left_all, left_next, left_none}
use Rattle.writing_pairs.specs.Pairs.{pairs_next, pairs_end}
use Rattle.writing_pairs.proofs.pairs.Goals as goal

pub returns-then-bytes-room : goal.returns-then-bytes-room
returns-then-bytes-room g c =
    let r = c.room.ensures.room in
    let w = c.room.ensures.within in
    let h = c.if-bytes-room.true in
    let l = text_length c.args.bytes.now in
    added_whole (omega arith) c.pairs_whole.ensures

pub loop-b-init : goal.loop-b-init
loop-b-init g c = left_all _ _ _

pub loop-b-preserved : goal.loop-b-preserved
loop-b-preserved g c = left_next c.loop-b.invariant (pairs_next _ c.loop-b.b-index c.loop-b-test.true) c.pair.ensures

pub returns : goal.returns
returns g c = left_none c.loop-b.invariant (pairs_end _ c.loop-b.b-index c.loop-b-test.false)
