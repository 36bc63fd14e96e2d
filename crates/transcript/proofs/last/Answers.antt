-- `transcript::last` meets its contract: a line is empty exactly when nothing of it is kept, and nine bytes have room for what
-- follows one.
use Rattle.transcript.specs.Lines.{kept_of, last_text}
use Rattle.transcript.specs.Laws.{tail_length}
use Rattle.writing.specs.Added.{added_fits}
use borrow.Author.Tests.{ne_eqb}
use mathlib.Core.Path.{◌≡◌, ◌∙◌}
use mathlib.Core.List.{[]}
use native.Mathlib.Omega.{arith}
use lib.ListN.{length, length-take}
use borrow.Author.Rules.{rules}
use Rattle.transcript.proofs.last.Goals as goal
use Rattle.transcript.proofs.last.Goals.{Start}

-- six bytes can be kept
six : (c : Start) → length c.args.line.head ≡ 6
six c = search rules

pub returns-then-line-eq0 : goal.returns-then-line-eq0
unfolding last_text kept_of
returns-then-line-eq0 c = rw c.if-line-eq0.true c.new-out.ensures

pub returns : goal.returns
unfolding last_text kept_of
returns c =
    let n = six (goal.at.returns c).Start in
    let l = tail_length c.class_of.result in
    let z : (length (kept_of c.args.line) ≡ 0 → ⊥) = λ e. c.if-line-eq0.false (let m = simp length-take at e in omega arith) in
    rw (ne_eqb _ _ z, ← c.class_of.ensures) (c.tail.ensures.text_is ∙ rw c.new-out.ensures (added_fits _ [] _ (omega arith)))
