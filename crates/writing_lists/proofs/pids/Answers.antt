-- `writing_lists::pids` meets its contract. The invariant: what is left of the list.
use Rattle.writing.specs.Added.{left_all, left_next, left_last}
use Rattle.writing_pairs.specs.Pairs.{pid_text}
use Rattle.writing_lists.specs.Parted.{pids_text, each_next, each_end}
use mathlib.Core.Path.{refl}
use Rattle.writing_lists.proofs.pids.Goals as goal

pub loop-pid-init : goal.loop-pid-init
unfolding pids_text
loop-pid-init g c = left_all _ _ _

pub loop-pid-preserved : goal.loop-pid-preserved
loop-pid-preserved g c =
    let l = left_next c.loop-pid.invariant (each_next pid_text c.args.pids.now c.loop-pid.more c.loop-pid.pid-index 0 c.loop-pid-test.true) c.comma.ensures in
    left_next l refl c.pair.ensures

pub returns : goal.returns
returns g c =
    left_last c.loop-pid.invariant (each_end pid_text c.args.pids.now c.loop-pid.more c.loop-pid.pid-index c.loop-pid-test.false) c.none.ensures
