use mathlib.Core.Path.{sym}
use borrow.Author.Tests.{eq-eqb, ne_eqb}
use Rattle.delivery.specs.Cases.{revs_of_rpm, revs_of_other}
use Rattle.delivery.proofs.revs_after.Goals as goal

pub returns-then-pid-eq-RPM : goal.returns-then-pid-eq-RPM
returns-then-pid-eq-RPM c = sym (revs_of_rpm _ _ c.args.revs (eq-eqb _ _ c.if-pid-eq-RPM.true))

pub returns-else-pid-eq-RPM : goal.returns-else-pid-eq-RPM
returns-else-pid-eq-RPM c = sym (revs_of_other _ c.args.value c.args.revs (ne_eqb _ _ c.if-pid-eq-RPM.false))
