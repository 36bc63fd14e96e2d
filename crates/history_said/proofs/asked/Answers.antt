-- `history_said::asked` meets its contract.
use Rattle.history_said.specs.Texts.{asked_text}
use Rattle.history_said.proofs.asked.Goals as goal

pub returns-in-Unable : goal.returns-in-Unable
unfolding asked_text
returns-in-Unable g c = rw c.in-Unable.is c.put.ensures

pub returns-in-NoData : goal.returns-in-NoData
unfolding asked_text
returns-in-NoData g c = rw c.in-NoData.is c.put-in-NoData.ensures

pub returns-in-Unknown : goal.returns-in-Unknown
unfolding asked_text
returns-in-Unknown g c = rw c.in-Unknown.is c.put-in-Unknown.ensures

pub returns-in-Range : goal.returns-in-Range
unfolding asked_text
returns-in-Range g c = rw c.in-Range.is c.range.ensures

pub returns-in-Reading : goal.returns-in-Reading
unfolding asked_text
returns-in-Reading g c = rw c.in-Reading.is c.reading.ensures

pub returns-in-Waiting : goal.returns-in-Waiting
unfolding asked_text
returns-in-Waiting g c = rw c.in-Waiting.is c.named.ensures
