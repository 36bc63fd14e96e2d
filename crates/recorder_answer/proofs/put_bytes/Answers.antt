-- `recorder_answer::put_bytes` meets its contract.
use Rattle.recorder_answer.specs.Laws.{bytes_none, text_past, text_put}
use Rattle.writing.specs.Added.{added_then}
use Rattle.writing_pairs.specs.Pairs.{bytes_some}
use native.Mathlib.Omega.{arith}
use Rattle.recorder_answer.proofs.put_bytes.Goals as goal

pub returns-then-bytes-eq0 : goal.returns-then-bytes-eq0
returns-then-bytes-eq0 g c = rw (bytes_none c.args.bytes.now c.if-bytes-eq0.true) at c.put_whole.ensures

pub returns-then-bytes-room : goal.returns-then-bytes-room
returns-then-bytes-room g c =
    let r = c.room-room.ensures.room in
    let w = c.room-room.ensures.within in
    let h = c.if-bytes-room.true in
    text_put c.args.bytes.now c.if-bytes-eq0.false (omega arith) (added_then (rw (bytes_some c.args.bytes.now c.if-bytes-eq0.false) at c.bytes.ensures) c.byte.ensures)

pub returns-else-bytes-room : goal.returns-else-bytes-room
returns-else-bytes-room g c =
    let r = c.room-room.ensures.room in
    let w = c.room-room.ensures.within in
    let h = c.if-bytes-room.false in
    text_past c.args.bytes.now c.if-bytes-eq0.false _ _ (omega arith)
