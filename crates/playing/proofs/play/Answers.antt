use Rattle.std.proofs.Common.{◌≡◌, ℕ, ◌+◌, ◌-◌, ◌<◌, ◌≤◌, List, ◌∙◌, length, take, drop, arith}
use Rattle.std.proofs.Math.ListN.{length-take, length-drop}
use Rattle.std.proofs.Math.Seq.{length_front}
use Rattle.lines.specs.Laws.{used_some, used_within}
use Rattle.lines.specs.Reading.{fed_of}
use Rattle.lines.specs.declared.Fed.{Fed}
use Rattle.lines.specs.declared.Reading.{Reading}
use Rattle.playing.proofs.play.Goals as goal

-- some of what is left of the input is used, and no more
used : (line : List ℕ) (r : Reading) (input : List ℕ) (at : ℕ) (f : Fed) → at < length input
    → f ≡ fed_of line r (take (length input - at) (drop at input))
    → (0 < f.used) × (at + f.used ≤ length input)
used line r input at f h e =
    let n : length (take (length input - at) (drop at input)) ≡ length input - at
    = omega (arith, length-take (length input - at) (drop at input), length-drop at input) in
    let u = used_within _ _ _ _ e in
    (used_some _ _ _ _ e (omega arith), omega arith)

pub overflow_add-at : goal.overflow_add-at
overflow_add-at g c = let u = used _ _ _ _ _ c.loop-at-test.true c.feed-fed.ensures.value in omega arith

pub loop-at-smaller-in-Nothing : goal.loop-at-smaller-in-Nothing
loop-at-smaller-in-Nothing g c =
    let u = used _ _ _ _ _ c.loop-at-test.true c.feed-fed.ensures.value in omega arith

pub loop-at-preserved-in-Nothing : goal.loop-at-preserved-in-Nothing
loop-at-preserved-in-Nothing g c =
    let u = used _ _ _ _ _ c.loop-at-test.true c.feed-fed.ensures.value in
    let i = c.loop-at.invariant in
    (u.1, c.feed-fed.auto.line ∙ i.1, c.take_line.auto.bytes ∙ i.2, i.3, i.4)

pub loop-at-smaller-in-Bad : goal.loop-at-smaller-in-Bad
loop-at-smaller-in-Bad g c =
    let u = used _ _ _ _ _ c.loop-at-test.true c.feed-fed.ensures.value in omega arith

pub loop-at-preserved-in-Bad : goal.loop-at-preserved-in-Bad
loop-at-preserved-in-Bad g c =
    let u = used _ _ _ _ _ c.loop-at-test.true c.feed-fed.ensures.value in
    let i = c.loop-at.invariant in
    (u.1, c.feed-fed.auto.line ∙ i.1, c.take_line.auto.bytes ∙ i.2, i.3, i.4)

pub loop-at-smaller-in-Show : goal.loop-at-smaller-in-Show
loop-at-smaller-in-Show g c =
    let u = used _ _ _ _ _ c.loop-at-test.true c.feed-fed.ensures.value in omega arith

pub loop-at-preserved-in-Show : goal.loop-at-preserved-in-Show
loop-at-preserved-in-Show g c =
    let u = used _ _ _ _ _ c.loop-at-test.true c.feed-fed.ensures.value in
    let i = c.loop-at.invariant in
    (u.1, c.feed-fed.auto.line ∙ i.1, c.take_line.auto.bytes ∙ i.2, i.3, i.4)

pub loop-at-smaller-in-Start : goal.loop-at-smaller-in-Start
loop-at-smaller-in-Start g c =
    let u = used _ _ _ _ _ c.loop-at-test.true c.feed-fed.ensures.value in omega arith

pub loop-at-preserved-in-Start : goal.loop-at-preserved-in-Start
loop-at-preserved-in-Start g c =
    let u = used _ _ _ _ _ c.loop-at-test.true c.feed-fed.ensures.value in
    let i = c.loop-at.invariant in
    let w = i.4 in
    let e = c.start-last.ensures in (
      u.1,
      c.feed-fed.auto.line ∙ i.1,
      c.take_line.auto.bytes ∙ i.2,
      i.3,
      record {
        marks = e.marks_len;
        table = e.table_len;
        polled = e.polled_len;
        known = e.known_len;
        pids = w.pids;
        rates = w.rates;
      },
    )

pub loop-at-smaller : goal.loop-at-smaller
loop-at-smaller g c = let u = used _ _ _ _ _ c.loop-at-test.true c.feed-fed.ensures.value in omega arith

pub loop-at-preserved : goal.loop-at-preserved
loop-at-preserved g c =
    let u = used _ _ _ _ _ c.loop-at-test.true c.feed-fed.ensures.value in
    let i = c.loop-at.invariant in
    let l = length_front c.loop-at.area c.call-last.new.area c.min-m.result c.call-last.auto.area in
    (u.1, c.feed-fed.auto.line ∙ i.1, c.take_line.auto.bytes ∙ i.2, l ∙ i.3, c.call-last.ensures.whole)
