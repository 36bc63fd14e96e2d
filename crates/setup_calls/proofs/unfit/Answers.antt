use mathlib.Core.Path.{sym, ◌∙◌}
use Rattle.setup_calls.specs.Cases.{late_start, unknown_start, good_start}
use Rattle.setup_calls.proofs.unfit.Goals as goal
use Rattle.setup_calls.proofs.unfit.Goals.{then-unknown_mode-via-then-unknown_mode, then-unknown_mode-via-else-unknown_mode+then-bad_profiles}

pub returns-then-bad_time : goal.returns-then-bad_time
returns-then-bad_time c = let a = c.args in late_start a.time a.settings a.profiles (sym c.bad_time.ensures ∙ c.if-bad_time.true)

pub returns-then-unknown_mode : goal.returns-then-unknown_mode
returns-then-unknown_mode c =
    let a = c.args in
    let soon = sym c.bad_time.ensures ∙ c.if-bad_time.false in
    unknown_start a.time a.settings a.profiles soon (elim c.then-unknown_mode.branch [
      | then-unknown_mode-via-then-unknown_mode w ↦ rw (sym c.unknown_mode.ensures ∙ w.if-unknown_mode.true)
      | then-unknown_mode-via-else-unknown_mode+then-bad_profiles w ↦ rw (sym c.unknown_mode.ensures ∙ w.if-unknown_mode.false, sym w.bad_profiles.ensures ∙ w.if-bad_profiles.true)
    ])

pub returns : goal.returns
returns c =
    let a = c.args in
    let soon = sym c.bad_time.ensures ∙ c.if-bad_time.false in
    good_start a.time a.settings a.profiles soon (rw (sym c.unknown_mode.ensures ∙ c.if-unknown_mode.false, sym c.bad_profiles.ensures ∙ c.if-bad_profiles.false))
