use Rattle.std.proofs.Common.{rules, arith, ◌≡◌, ◌+◌, ◌<◌, sym, ◌∙◌, length, get_or}
use Rattle.plan.specs.Steps.{key_in, line_of}
use Rattle.plan.specs.Gather.{line_at, length_line, line_size_le, width_le, width_pos, gather_from_law, gather_skip, gather_full, gather_more, gather_end}
use Rattle.plan.proofs.gather.Goals as goal
use Rattle.plan.proofs.gather.Goals.{After-group-g, At-loop-i, then-g-wanted+else-count-w, else-g-wanted}

long : (c : At-loop-i) → length (line_of c.args.p) ≡ c.size-n.result
long c =
    let h : length c.args.p.pids ≡ 512 = search rules in
    length_line c.args.p h ∙ sym c.size-n.ensures

-- the group that was read is that of the PID at the loop's place
here : (c : After-group-g) → key_in c.args.p (get_or (line_of c.args.p) c.loop-i.i 0) ≡ c.group-g.result
unfolding key_in
here c =
    let p = c.args.p in
    let n = c.size-n.ensures in
    rw (line_at p c.loop-i.i (omega arith)) (sym (rw c.row-q.ensures.0 at c.group-g.ensures))

-- the array has room for one more
below : (c : At-loop-i) → c.loop-i.count < 6
below c = let e = c.width-w.ensures in omega (arith, width_le c.args.p.maxpids c.args.wanted)

pub loop-i-init : goal.loop-i-init
loop-i-init c =
    let p = c.args.p in
    let g = c.args.wanted in
    rw c.width-w.ensures (width_pos p.maxpids g, gather_from_law p g c.args.from, omega arith)

pub bounds-p-i : goal.bounds-p-i
bounds-p-i c = omega (arith, line_size_le c.args.p.len)

pub bounds-pids-count : goal.bounds-pids-count
bounds-pids-count c = omega (arith, below (goal.at.bounds-pids-count c).At-loop-i)

pub overflow_add-count : goal.overflow_add-count
overflow_add-count c = omega (arith, below (goal.at.overflow_add-count c).At-loop-i)

pub returns-then-count-w : goal.returns-then-count-w
returns-then-count-w c =
    let p = c.args.p in
    let xs = line_of p in
    let i = c.loop-i.i in
    let long = long (goal.at.returns-then-count-w c).At-loop-i in
    let e = line_at p i (let n = c.size-n.ensures in omega arith) in
    let k = here (goal.at.returns-then-count-w c).After-group-g ∙ c.if-g-wanted.true in
    rw (← e) (sym (gather_full (key_in p) c.args.wanted c.width-w.result xs c.loop-i.pids c.loop-i.count i (omega arith) k c.if-count-w.true) ∙ c.loop-i.invariant.1)

pub loop-i-preserved : goal.loop-i-preserved
loop-i-preserved c =
    let p = c.args.p in
    let xs = line_of p in
    let i = c.loop-i.i in
    let long = long (goal.at.loop-i-preserved c).At-loop-i in
    let n = c.size-n.ensures in
    let e = line_at p i (omega arith) in
    let h = here (goal.at.loop-i-preserved c).After-group-g in
    let inv = c.loop-i.invariant in
    elim c.if-g-wanted.branch [
      | then-g-wanted+else-count-w w ↦
          let z : (c.loop-i.count + 1 ≡ c.width-w.result → ⊥) = w.if-count-w.false in (
            rw w.count-is (omega arith),
            rw (w.count-is, w.pids-is, ← e) (sym (gather_more (key_in p) c.args.wanted c.width-w.result xs c.loop-i.pids c.loop-i.count i (omega arith) (h ∙ w.if-g-wanted.true) z) ∙ inv.1),
            omega arith,
          )
      | else-g-wanted w ↦ (
        rw w.count-is inv.0,
        rw (w.count-is, w.pids-is) (sym (gather_skip (key_in p) c.args.wanted c.width-w.result xs c.loop-i.pids c.loop-i.count i (omega arith) (λ z. w.if-g-wanted.false (sym h ∙ z))) ∙ inv.1),
        omega arith,
      )
    ]

pub returns : goal.returns
returns c =
    let p = c.args.p in
    let i = c.loop-i.i in
    let long = long (goal.at.returns c).At-loop-i in
    let e : c.max.result ≡ i = omega arith in
    rw e (sym (gather_end (key_in p) c.args.wanted c.width-w.result (line_of p) c.loop-i.pids c.loop-i.count i (omega arith)) ∙ c.loop-i.invariant.1)
