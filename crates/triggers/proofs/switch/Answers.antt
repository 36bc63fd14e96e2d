use Rattle.std.proofs.Common.{◌≡◌, rules, sym, ap, ◌∙◌, arith, length, set}
use Rattle.base.specs.Each.{each_step, each_none}
use Rattle.config.specs.declared.Profile.{Profile}
use Rattle.config.specs.Blank.{no_profile}
use Rattle.triggers.specs.Rules.{most_profiles, in_force_of, switched_of, switch_of, with_list}
use Rattle.triggers.proofs.switch.Goals as goal
use Rattle.triggers.proofs.switch.Goals.{Start}

long : (c : Start) → length c.args.profiles.list ≡ most_profiles
long c = search rules

pub loop-i-init : goal.loop-i-init
loop-i-init c = sym (each_none _ _)

pub loop-i-preserved : goal.loop-i-preserved
loop-i-preserved c =
    let l = long (goal.at.loop-i-preserved c).Start in
    let e = each_step (switched_of c.args.pid c.args.value) c.loop-i.i c.args.profiles.list no_profile (omega arith) in
    ap (λ (x : Profile). set c.loop-i.list c.loop-i.i x) c.switched.ensures ∙ rw (← c.loop-i.invariant) at e

pub returns : goal.returns
unfolding switch_of
returns c =
    let n : c.loop-i.i ≡ in_force_of c.args.profiles.count = omega arith in
    ap (with_list c.args.profiles) (rw n at c.loop-i.invariant)
