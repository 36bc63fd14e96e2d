use Rattle.plan.specs.Cases.{take_here, take_done, take_next, gather_none}
use Rattle.plan.proofs.take.Goals as goal

pub returns-then-chunk-ne0 : goal.returns-then-chunk-ne0
returns-then-chunk-ne0 c =
    let p = c.args.p in
    let g = c.gather-here.ensures in
    rw (take_here p (rw g at c.if-chunk-ne0.true), g)

pub returns-then-g-gt-REST : goal.returns-then-g-gt-REST
returns-then-g-gt-REST c =
    let p = c.args.p in
    let g = c.gather-here.ensures in
    let e = rw g at c.if-chunk-ne0.false in
    rw (take_done p e (rw c.least-g.ensures at c.if-g-gt-REST.true), g, gather_none p p.group p.at e)

pub returns : goal.returns
returns c =
    let p = c.args.p in
    let g = c.gather-here.ensures in
    let l = c.least-g.ensures in
    let e = rw g at c.if-chunk-ne0.false in
    rw (take_next p e (rw l at c.if-g-gt-REST.false), c.gather-there.ensures, l)
