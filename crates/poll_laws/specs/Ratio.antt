-- Ratio mode: how fast requests count, and how soon the slow test passes.
use Rattle.std.specs.Prelude.{Bool, true, false, ℕ, zero, suc, leb}
use Rattle.base.specs.Choice.{pick}
use Rattle.base.specs.Count.{more_of}

-- The fast requests after a single round with a fast PID: 0 where the test passes, else one more.
abbrev pub requests_after : ℕ → ℕ → ℕ
requests_after ratio r = pick (leb ratio (more_of r)) 0 (more_of r)

-- Whether the test passes in one of n such rounds on end.
unfoldable pub passes_within : ℕ → ℕ → ℕ → Bool
passes_within zero ratio r = false
passes_within (suc n) ratio r = pick (leb ratio (more_of r)) true (passes_within n ratio (requests_after ratio r))
