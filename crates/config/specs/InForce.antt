-- The profiles that are handed in: the first `count` of 16.
use Rattle.std.specs.Prelude.{List, take}
use Rattle.config.specs.declared.Profile.{Profile}
use Rattle.config.specs.declared.Profiles.{Profiles}

unfoldable pub in_force : Profiles → List Profile
in_force ps = take ps.count ps.list
