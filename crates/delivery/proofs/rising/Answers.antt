use native.Mathlib.Omega.{arith}
use Prim.Native.Nat.{ℕ, ◌≤◌}
use mathlib.Core.Path.{◌≡◌, refl, sym, ◌∙◌}
use lib.ListN.{length, get_or, take}
use borrow.Author.Tests.{le-leb, lt-leb}
use mir.Val.{Fits}
use mir.Syntax.{w8}
use Rattle.reply.specs.Rules.{max_pids}
use Rattle.delivery.specs.Cases.{listed_le, listed_length, listed_at, rising_low, rising_next, rising_end}
use borrow.Author.Rules.{rules}
use Rattle.delivery.proofs.rising.Goals as goal
use Rattle.delivery.proofs.rising.Goals.{After-listed-n, Start}

long : (c : Start) → length c.args.response.pids ≡ max_pids
long c = search rules

byte : (c : Start) (i : ℕ) → Fits w8 (get_or c.args.response.pids i 0)
byte c i = search rules

few : (c : After-listed-n) → c.listed-n.result ≤ max_pids
few c = rw c.listed-n.ensures (listed_le _)

pub loop-i-init : goal.loop-i-init
loop-i-init c = (omega arith, omega arith, refl)

pub bounds-response-i : goal.bounds-response-i
bounds-response-i c =
    let n = few (goal.at.bounds-response-i c).After-listed-n in
    omega arith

pub returns-then-pid-least : goal.returns-then-pid-least
returns-then-pid-least c =
    let r = c.args.response in
    let l = listed_length r.count r.pids (long (goal.at.returns-then-pid-least c).Start) in
    let e = listed_at r.count r.pids (long (goal.at.returns-then-pid-least c).Start) c.loop-i.i 0 (omega arith) in
    sym (c.loop-i.invariant.2 ∙ rising_low (take r.count r.pids) c.loop-i.least c.loop-i.i (omega arith) (rw e (lt-leb _ _ c.if-pid-least.true)))

pub overflow_add-least : goal.overflow_add-least
overflow_add-least c = omega (arith, byte (goal.at.overflow_add-least c).Start c.loop-i.i)

pub loop-i-preserved : goal.loop-i-preserved
loop-i-preserved c =
    let r = c.args.response in
    let i = c.loop-i.i in
    let l = listed_length r.count r.pids (long (goal.at.loop-i-preserved c).Start) in
    let e = listed_at r.count r.pids (long (goal.at.loop-i-preserved c).Start) i 0 (omega arith) in
    let f = rising_next (take r.count r.pids) c.loop-i.least i (omega arith) (rw e (le-leb _ _ c.if-pid-least.false)) in
    (omega arith, omega (arith, byte (goal.at.loop-i-preserved c).Start i), c.loop-i.invariant.2 ∙ rw e at f)

pub returns : goal.returns
returns c =
    let r = c.args.response in
    let l = listed_length r.count r.pids (long (goal.at.returns c).Start) in
    sym (c.loop-i.invariant.2 ∙ rising_end (take r.count r.pids) c.loop-i.least c.loop-i.i (omega arith))
