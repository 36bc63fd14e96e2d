use Rattle.std.specs.Prelude.{◌≡◌, length}
use Rattle.passes.specs.Wanted.{Collected}
use Rattle.passes.proofs.wishes.wishes.Given as goal

abbrev pub invariant-loop-profile : goal.invariant-loop-profile
invariant-loop-profile l = (length l.found ≡ 256) × Collected l.profiles l.found l.profile-index
