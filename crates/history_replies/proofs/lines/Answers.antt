-- `history_replies::lines` meets its contract. The invariant: the answer is that of the lines that are left.
use mathlib.Core.Path.{◌∙◌, sym}
use Rattle.history_replies.specs.Replies.{added_most, lines_next}
use Rattle.history_replies.proofs.lines.Goals as goal

pub loop-line-preserved : goal.loop-line-preserved
loop-line-preserved c =
    let l = c.loop-line.invariant in
    let e = sym c.add_line.ensures ∙ c.in_ok-added.was in
    (added_most _ _ _ _ e l.0, l.1 ∙ rw c.in-Some.ensures.steps (lines_next _ _ _ _ e _))
