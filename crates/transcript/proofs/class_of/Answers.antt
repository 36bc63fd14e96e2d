-- `transcript::class_of` meets its contract.
use Rattle.command.specs.Classify.{command_of}
use Rattle.transcript.specs.Lines.{kept_of}
use native.Mathlib.Omega.{arith}
use lib.Seq.{take_all}
use lib.ListN.{length, length-take}
use mathlib.Core.Path.{◌≡◌, sym, ap, ◌∙◌}
use borrow.Author.Rules.{rules}
use Rattle.transcript.proofs.class_of.Goals as goal
use Rattle.transcript.proofs.class_of.Goals.{Start}

-- six bytes can be kept
six : (c : Start) → length c.args.line.head ≡ 6
six c = search rules

pub slice_bounds-head-end : goal.slice_bounds-head-end
slice_bounds-head-end c = omega (arith, six (goal.at.slice_bounds-head-end c).Start)

pub slice_bounds-classify-end : goal.slice_bounds-classify-end
slice_bounds-classify-end c = let n = six (goal.at.slice_bounds-classify-end c).Start in simp length-take (omega arith)

pub returns-then-line-lt6 : goal.returns-then-line-lt6
unfolding kept_of
returns-then-line-lt6 c = c.classify.ensures.value

pub returns : goal.returns
unfolding kept_of
returns c =
    let n = six (goal.at.returns c).Start in
    c.classify-2.ensures.value ∙ ap command_of (sym (take_all c.args.line.kept _ (omega arith)))
