use Rattle.std.proofs.Common.{rules, arith, ◌≡◌, ℕ, length, get_or, Fits, w8}
use Rattle.std.proofs.Math.Seq.{get_or-take}
use Rattle.reply.specs.Rules.{max_lines, lengths_of, total_of}
use Rattle.reply.specs.Laws.{sum_step, sum_end, lengths_length, lengths_at}
use Rattle.reply.proofs.total.Goals as goal
use Rattle.reply.proofs.total.Goals.{Start}

-- What is known of the lengths: how many there are, and that each is a byte.
long : (c : Start) → length c.args.r.lengths ≡ max_lines
long c = search rules

byte : (c : Start) (i : ℕ) → Fits w8 (get_or c.args.r.lengths i 0)
byte c i = search rules

pub loop-length-init : goal.loop-length-init
unfolding total_of
loop-length-init c = omega arith

pub loop-length-preserved : goal.loop-length-preserved
loop-length-preserved c =
    let i = c.loop-length.length-index in
    let r = c.args.r in
    let b = byte (goal.at.loop-length-preserved c).Start i in
    let l = lengths_length r (long (goal.at.loop-length-preserved c).Start) in
    omega (arith, get_or-take c.counted.result r.lengths i 0 (omega arith), lengths_at r i (omega arith), sum_step (lengths_of r) i (omega arith))

pub returns : goal.returns
returns c =
    let r = c.args.r in
    let l = lengths_length r (long (goal.at.returns c).Start) in
    omega (arith, sum_end (lengths_of r) c.loop-length.length-index (omega arith))
