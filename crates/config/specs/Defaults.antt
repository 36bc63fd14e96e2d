-- The settings of a box that is given no others: document 01, before "Refusals of the box".
use Rattle.std.specs.Prelude.{false}
use Rattle.config.specs.declared.Settings.{Settings}

abbrev pub default_settings : Settings
default_settings =
    record { mode = 1; interval = 450; ratio = 6; promotion = 40; demotion = 2000; removal = 4000; multi = false; maxpids = 6 }
