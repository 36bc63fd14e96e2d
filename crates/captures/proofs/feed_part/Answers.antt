use Rattle.std.proofs.Common.{◌≡◌, ℕ, ◌+◌, ◌-◌, ◌≤◌, List, ◌∙◌, length, take, drop, arith}
use Rattle.std.proofs.Math.ListN.{length-take}
use Rattle.capture_stream.specs.Laws.{fed_short}
use Rattle.capture_stream.specs.Machine.{fed_of, going}
use Rattle.capture_stream.specs.declared.Used.{Used}
use Rattle.capture_stream.specs.declared.Reading.{Reading}
use Rattle.captures.proofs.feed_part.Goals as goal

-- no more is used than there is
used_le : (r : Reading) (hold input : List ℕ) (at room : ℕ) (f : Used) → at ≤ length input
    → f ≡ fed_of (going r hold) (take (length input - at) (drop at input)) room → at + f.used ≤ length input
used_le r hold input at room f h e =
    let part = take (length input - at) (drop at input) in
    let short : length part ≤ length input - at = rw length-take (omega arith) in
    let used : f.used ≤ length part = rw e (fed_short (going r hold) part room) in
    omega arith

pub overflow_add-at : goal.overflow_add-at
overflow_add-at g c = let u = used_le _ _ _ _ _ _ c.loop-at.invariant.0 c.feed_behind-fed.ensures.value in omega arith

pub loop-at-preserved : goal.loop-at-preserved
loop-at-preserved g c =
    let u = used_le _ _ _ _ _ _ c.loop-at.invariant.0 c.feed_behind-fed.ensures.value in
    let i = c.loop-at.invariant in
    (u, c.feed_behind-fed.auto.hold ∙ i.1, c.flush.ensures)
