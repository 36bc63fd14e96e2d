use Prim.Native.Nat.{◌≤◌}
use mathlib.Core.Path.{◌≡◌, ◌∙◌}
use lib.ListN.{length}
use borrow.Author.Rules.{rules}
use Rattle.reply.specs.Rules.{max_pids}
use Rattle.delivery.specs.Cases.{listed_le, listed_over}
use Rattle.delivery.proofs.any_over.Goals as goal
use Rattle.delivery.proofs.any_over.Goals.{After-listed, Start}

long : (c : Start) → length c.args.response.replies ≡ max_pids
long c = search rules

few : (c : After-listed) → c.listed.result ≤ max_pids
few c = rw c.listed.ensures (listed_le _)

pub shared_ref_as_front-over_in : goal.shared_ref_as_front-over_in
shared_ref_as_front-over_in c = few (goal.at.shared_ref_as_front-over_in c).After-listed

pub returns : goal.returns
returns c =
    let r = c.args.response in
    c.over_in.ensures ∙ rw c.listed.ensures (listed_over r.count r.replies (long (goal.at.returns c).Start))
