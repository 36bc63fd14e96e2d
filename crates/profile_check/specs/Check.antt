-- Refusal 2, for settings and profiles: over 16 profiles, two active normal ones, or an unknown kind, mode or priority.
use Rattle.std.specs.Prelude.{Bool, ◌||◌, ℕ, ltb, eqb, count_by}
use Rattle.std.specs.List.{list_any}
use Rattle.config.specs.InForce.{in_force}
use Rattle.config.specs.declared.Profile.{Profile}
use Rattle.config.specs.declared.Profiles.{Profiles}

-- 0 Interval, 1 Ratio.
unfoldable pub unknown_mode : ℕ → Bool
unknown_mode mode = ltb 1 mode

-- Kinds are 0, 1 and 2, priorities 0 and 1.
unfoldable pub unknown_of : Profile → Bool
unknown_of p = ltb 2 p.kind || ltb 1 p.priority

abbrev pub normal : Profile → Bool
normal p = eqb p.kind 0

unfoldable pub bad_profiles : Profiles → Bool
bad_profiles ps = ltb 16 ps.count || (ltb 1 (count_by normal (in_force ps)) || list_any unknown_of (in_force ps))
