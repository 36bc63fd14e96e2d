-- `transcript::tail` meets its contract: the bytes of each case are written out.
use Rattle.transcript.specs.Lines.{tail_text, class_name, number_text}
use Rattle.writing.specs.Added.{added_then}
use Rattle.transcript.proofs.tail.Goals as goal

pub returns-in-Range : goal.returns-in-Range
unfolding tail_text class_name number_text
returns-in-Range g c = rw c.in-Range.is (added_then c.put.ensures (added_then c.byte.ensures c.byte-in-Range.ensures))

pub returns-in-Pid : goal.returns-in-Pid
unfolding tail_text class_name number_text
returns-in-Pid g c =
    let high = rw c.hex_digit.ensures at c.byte-in-Pid.ensures in
    let low = rw c.hex_digit-in-Pid.ensures at c.byte-in-Pid-2.ensures in
    rw c.in-Pid.is (added_then c.put-in-Pid.ensures (added_then high (added_then low c.byte-in-Pid-3.ensures)))

pub returns-in-Unknown : goal.returns-in-Unknown
unfolding tail_text class_name number_text
returns-in-Unknown g c = rw c.in-Unknown.is c.put-in-Unknown.ensures
