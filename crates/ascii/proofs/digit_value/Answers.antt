-- `ascii::digit_value` meets its contract: each return rewrites with the tests that led there.
use Rattle.ascii.specs.Chars.{between_low, hex_value}
use native.Mathlib.Omega.{arith}
use mathlib.Core.Path.{sym, ◌∙◌}
use Rattle.ascii.proofs.digit_value.Goals as goal

pub overflow_sub-result : goal.overflow_sub-result
overflow_sub-result c = omega (arith, between_low _ _ _ (sym c.is_between.ensures ∙ c.if-is_between.true))

pub returns-then-is_between : goal.returns-then-is_between
unfolding hex_value
returns-then-is_between c = rw (sym c.is_between.ensures ∙ c.if-is_between.true)

pub overflow_sub-result-then-is_between-2 : goal.overflow_sub-result-then-is_between-2
overflow_sub-result-then-is_between-2 c = omega (arith, between_low _ _ _ (sym c.is_between-2.ensures ∙ c.if-is_between-2.true))

pub returns-then-is_between-2 : goal.returns-then-is_between-2
unfolding hex_value
returns-then-is_between-2 c =
    rw (sym c.is_between.ensures ∙ c.if-is_between.false, sym c.is_between-2.ensures ∙ c.if-is_between-2.true)

pub overflow_sub-result-then-is_between-3 : goal.overflow_sub-result-then-is_between-3
overflow_sub-result-then-is_between-3 c = omega (arith, between_low _ _ _ (sym c.is_between-3.ensures ∙ c.if-is_between-3.true))

pub returns-then-is_between-3 : goal.returns-then-is_between-3
unfolding hex_value
returns-then-is_between-3 c =
    rw (sym c.is_between.ensures ∙ c.if-is_between.false, sym c.is_between-2.ensures ∙ c.if-is_between-2.false, sym c.is_between-3.ensures ∙ c.if-is_between-3.true)

pub returns : goal.returns
unfolding hex_value
returns c =
    rw (sym c.is_between.ensures ∙ c.if-is_between.false, sym c.is_between-2.ensures ∙ c.if-is_between-2.false, sym c.is_between-3.ensures ∙ c.if-is_between-3.false)
