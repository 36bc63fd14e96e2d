use Rattle.transcript.specs.Lines.{Behind}
use Rattle.transcript.proofs.feed_behind.Given as goal

abbrev pub invariant-loop-i : goal.invariant-loop-i
invariant-loop-i g l = Behind l.initial.current l.input l.initial.out l.i l.current l.out
