use Rattle.std.specs.Prelude.{None, Option, length}
use Rattle.std.proofs.Common.{arith, sym, ◌∙◌, length-set}
use Rattle.std.proofs.lemmas.List.{length-replicate}
use Rattle.config.specs.declared.PidPriority.{PidPriority}
use Rattle.config.specs.Blank.{no_profile}
use Rattle.passes.specs.Wanted.{collected_start, collected_skips, collected_adds, collected_end}
use Rattle.passes.proofs.wishes.wishes.Goals as goal
use Rattle.passes.proofs.wishes.wishes.Goals.{else-counts, then-counts}

pub loop-profile-init : goal.loop-profile-init
loop-profile-init c = rw c.none-found.ensures (length-replicate {A = Option PidPriority} 256 None, collected_start c.args.profiles.now)

pub loop-profile-preserved : goal.loop-profile-preserved
loop-profile-preserved c =
    let ps = c.args.profiles.now in
    let found = c.loop-profile.found in
    let i = c.loop-profile.profile-index in
    let inv = c.loop-profile.invariant in
    let e = c.counts.ensures in
    elim c.if-counts.branch [
      | then-counts w ↦ (
        rw w.found-is (simp length-set inv.0),
        rw w.found-is (collected_adds ps found i no_profile (omega arith) inv.1 w.joined.result inv.0 (sym e ∙ w.if-counts.true) (rw w.priority_of.ensures at w.joined.ensures)),
      )
      | else-counts w ↦ (rw w.found-is inv.0, rw w.found-is (collected_skips ps found i no_profile (omega arith) inv.1 (sym e ∙ w.if-counts.false)))
    ]

pub returns : goal.returns
returns c = collected_end c.args.profiles.now c.loop-profile.found c.loop-profile.profile-index (omega arith) c.loop-profile.invariant.1
