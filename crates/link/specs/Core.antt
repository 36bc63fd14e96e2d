-- The connection as it is held: the lent arrays and what goes by value, put together as the connection that the rules are said of.
use Rattle.std.specs.Prelude.{Bool, List, ℕ}
use Rattle.link.specs.Ranges.{ranges_of}
use Rattle.link.specs.declared.Link.{Link}
use Rattle.link.specs.declared.Linked.{Linked}
use Rattle.link.specs.declared.Checked.{Checked}
use Rattle.link.specs.declared.rest.Core.{Core}
use Rattle.link.specs.declared.rest.Tried.{Tried}
use Rattle.link.specs.declared.rest.Looked.{Looked}

-- THE CONNECTION that the known lengths, the ranges' rows and the rest are.
abbrev pub link_of : List Bool → List (List ℕ) → Core → Link
link_of known ranges k = record { connected = k.connected; features = k.features; ranges = ranges_of ranges; known = known; attempt = k.attempt }

abbrev pub linked_in : List Bool → List (List ℕ) → Tried → Linked
linked_in known ranges r = record { link = link_of known ranges r.core; said = r.said }

abbrev pub checked_in : List Bool → List (List ℕ) → Looked → Checked
checked_in known ranges r = record { link = link_of known ranges r.core; yes = r.yes }
