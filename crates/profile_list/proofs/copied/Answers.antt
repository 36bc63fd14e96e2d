use Rattle.profile_list.specs.Laws.{copied_over, copied_whole}
use Rattle.profile_list.proofs.copied.Goals as goal

pub returns-then-n-gt-MAX_PROFILES : goal.returns-then-n-gt-MAX_PROFILES
returns-then-n-gt-MAX_PROFILES c = rw c.no_profiles-into.ensures (copied_over _ c.if-n-gt-MAX_PROFILES.true)

pub returns : goal.returns
returns c = rw (c.copy_from_slice.ensures.after, c.no_profiles-into.ensures) (copied_whole _ c.if-n-gt-MAX_PROFILES.false)
