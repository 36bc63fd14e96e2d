use borrow.Author.Tests.{eq-eqb, ne_eqb}
use Rattle.rounds.specs.Result.{keep_of, teach_of}
use Rattle.rounds.proofs.result.teach.Goals as goal

pub returns-then-k-row-eq0 : goal.returns-then-k-row-eq0
unfolding teach_of keep_of
returns-then-k-row-eq0 c =
    let r = c.row-row.ensures.0 in
    let e = eq-eqb _ _ (rw r at c.if-k-row-eq0.true) in
    rw (r, e)

pub returns-else-k-row-eq0 : goal.returns-else-k-row-eq0
unfolding teach_of keep_of
returns-else-k-row-eq0 c =
    let r = c.row-row.ensures.0 in
    let e = ne_eqb _ _ (rw r at c.if-k-row-eq0.false) in
    rw (r, e)
