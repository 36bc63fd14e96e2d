-- Which triggered profiles a value switches off (document 01, "Client cache").
use Rattle.std.specs.Prelude.{Option, None, Some, Bool, false, ◌&&◌, List, ℕ, min, ltb, eqb, take}
use Rattle.std.specs.List.{list_any}
use Rattle.base.specs.Choice.{pick}
use Rattle.base.specs.Each.{each_of}
use Rattle.config.specs.declared.Profile.{Profile}
use Rattle.config.specs.declared.Profiles.{Profiles}

abbrev pub most_profiles : ℕ
most_profiles = 16

-- The kind of a triggered profile.
abbrev pub triggered : ℕ
triggered = 2

abbrev pub with_enabled : Profile → Bool → Profile
with_enabled x e = record { kind = x.kind; pid = x.pid; priority = x.priority; threshold = x.threshold; enabled = e }

abbrev pub with_list : Profiles → List Profile → Profiles
with_list ps l = record { list = l; count = ps.count }

unfoldable pub in_force_of : ℕ → ℕ
in_force_of count = min count most_profiles

-- A threshold strictly below the value; none is below any.
abbrev pub below : Option ℕ → ℕ → Bool
below None v = false
below (Some t) v = ltb t v

-- Triggered, enabled, of that PID, with a threshold strictly below the value.
unfoldable pub crossed_of : ℕ → ℕ → Profile → Bool
crossed_of p v x = eqb x.kind triggered && (x.enabled && (eqb x.pid p && below x.threshold v))

unfoldable pub switched_of : ℕ → ℕ → Profile → Profile
switched_of p v x = pick (crossed_of p v x) (with_enabled x false) x

unfoldable pub switch_of : ℕ → ℕ → Profiles → Profiles
switch_of p v ps = with_list ps (each_of (in_force_of ps.count) (switched_of p v) ps.list)

-- One notice, however many are switched off.
unfoldable pub notice_of : ℕ → ℕ → Profiles → Bool
notice_of p v ps = list_any (crossed_of p v) (take (in_force_of ps.count) ps.list)
