-- No profiles, and what stands in a place that holds none.
use Rattle.std.specs.Prelude.{false, None, replicate}
use Rattle.config.specs.declared.Profile.{Profile}
use Rattle.config.specs.declared.Profiles.{Profiles}

abbrev pub no_profile : Profile
no_profile = record { kind = 0; pid = 0; priority = 0; threshold = None; enabled = false }

abbrev pub no_profiles : Profiles
no_profiles = record { list = replicate 16 no_profile; count = 0 }
