use Rattle.std.proofs.Common.{rules, arith, ◌≡◌, ℕ, refl, sym, ap, ◌∙◌, length, get_or}
use Rattle.plan.specs.Steps.{key_in, line_of, least_in, nearer_of}
use Rattle.plan.specs.Gather.{length_line, line_size_le, least_turn, least_end}
use Rattle.plan.proofs.least.Goals as goal
use Rattle.plan.proofs.least.Goals.{After-group-g, At-loop-pid}

pub shared_ref_as_front-pid-items : goal.shared_ref_as_front-pid-items
shared_ref_as_front-pid-items c = omega (arith, line_size_le c.args.p.len)

long : (c : At-loop-pid) → length (line_of c.args.p) ≡ c.size.result
long c =
    let h : length c.args.p.pids ≡ 512 = search rules in
    length_line c.args.p h ∙ sym c.size.ensures

-- the group that was read is that of the PID at the loop's place
here : (c : After-group-g) → key_in c.args.p (get_or (line_of c.args.p) c.loop-pid.pid-index 0) ≡ c.group-g.result
unfolding key_in line_of
here c = rw (c.group-g.ensures, c.row-q.ensures.0, c.size.ensures)

pub loop-pid-init : goal.loop-pid-init
unfolding least_in
loop-pid-init c = refl

pub loop-pid-preserved : goal.loop-pid-preserved
loop-pid-preserved c =
    let p = c.args.p in
    let i = c.loop-pid.pid-index in
    let long = long (goal.at.loop-pid-preserved c).At-loop-pid in
    let e = c.nearer-best.ensures ∙ ap (λ (g : ℕ). nearer_of c.args.above g c.loop-pid.best) (sym (here (goal.at.loop-pid-preserved c).After-group-g)) in
    rw e (sym (least_turn (key_in p) c.args.above c.loop-pid.best (line_of p) i (omega arith)) ∙ c.loop-pid.invariant)

pub returns : goal.returns
returns c =
    let p = c.args.p in
    let long = long (goal.at.returns c).At-loop-pid in
    sym (least_end (key_in p) c.args.above c.loop-pid.best (line_of p) c.loop-pid.pid-index (omega arith)) ∙ c.loop-pid.invariant
