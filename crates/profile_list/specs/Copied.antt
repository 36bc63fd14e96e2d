-- The profiles that are lent, in the box's own array: document 01, "Start, ProfilePidsChanged", and its refusal 2.
use Rattle.std.specs.Prelude.{List, ◌++◌, ℕ, ◌-◌, leb, length, take, replicate}
use Rattle.base.specs.Choice.{pick}
use Rattle.config.specs.Blank.{no_profile}
use Rattle.config.specs.declared.Profile.{Profile}
use Rattle.config.specs.declared.Profiles.{Profiles}

-- Places that hold no profile.
abbrev pub blanks : ℕ → List Profile
blanks n = replicate n no_profile

-- "a lent list of at most 16 records": of a longer one the count says that it is longer, and the box refuses it.
unfoldable pub count_of : ℕ → ℕ
count_of n = pick (leb n 16) n 17

-- How many records are read: all, but none of a longer list, which its count alone has refused.
unfoldable pub kept_of : ℕ → ℕ
kept_of n = pick (leb n 16) n 0

-- Those records as they were lent, and no profile in the places behind them.
unfoldable pub copied_of : List Profile → Profiles
copied_of ps = record { list = take (kept_of (length ps)) ps ++ blanks (16 - kept_of (length ps)); count = count_of (length ps) }
