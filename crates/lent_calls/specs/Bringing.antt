-- What a call brings, once the profiles that were lent to it are copied.
use Rattle.config.specs.declared.Profiles.{Profiles}
use Rattle.obd2.specs.declared.call.Brought.{Brought}

abbrev pub bringing : Brought → Profiles → Brought
bringing b ps = record { profiles = ps; response = b.response; session = b.session; outcome = b.outcome }
