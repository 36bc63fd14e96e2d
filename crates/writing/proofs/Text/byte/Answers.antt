-- `Text::byte` meets its contract.
use Rattle.std.proofs.Common.{sym, rules}
use Rattle.writing.specs.Added.{added_one, added_past}
use Rattle.writing.proofs.Text.byte.Goals as goal

pub returns-then-self : goal.returns-then-self
returns-then-self g c = record { text_is = rw (sym c.self.view_is) (added_one _ _ _ (search rules) _ c.if-self.true) }

pub returns-else-self : goal.returns-else-self
returns-else-self g c =
    record { text_is = rw (sym c.self.view_is) (sym (added_past _ _ _ (search rules) _ c.self.invariant c.if-self.false)) }
