use borrow.Author.Tests.{eq-eqb, ne_eqb}
use Rattle.control_line.proofs.places.message_in.Goals as goal

-- src/lib.rt:38:9
pub returns-then-kind-eq0 : goal.returns-then-kind-eq0
returns-then-kind-eq0 c = rw (eq-eqb _ _ c.if-kind-eq0.true)

-- src/lib.rt:41:9
pub returns-then-kind-eq1 : goal.returns-then-kind-eq1
returns-then-kind-eq1 c = rw (ne_eqb _ _ c.if-kind-eq0.false, eq-eqb _ _ c.if-kind-eq1.true)

-- src/lib.rt:34:1
pub returns : goal.returns
returns c = rw (ne_eqb _ _ c.if-kind-eq0.false, ne_eqb _ _ c.if-kind-eq1.false)
