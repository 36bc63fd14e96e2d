use Rattle.std.proofs.Common.{◌≡◌, drop}
use Rattle.poller.specs.State.{pids_of}
use Rattle.rounds.specs.Result.{teach_all, learn_of}
use Rattle.rounds.proofs.result.learn.Given as goal

abbrev pub invariant-loop-i : goal.invariant-loop-i
invariant-loop-i l = teach_all l.k (drop l.i (pids_of l.fn.q)) (drop l.i l.learnt) ≡ learn_of l.initial.k l.fn.q l.learnt
