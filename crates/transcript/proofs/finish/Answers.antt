-- `transcript::finish` meets its contract: a line is empty exactly when nothing of it is kept.
use Rattle.transcript.specs.Lines.{kept_of, last_text, text_of, tail_text}
use borrow.Author.Tests.{ne_eqb}
use mathlib.Core.Path.{◌≡◌, ap, ◌∙◌}
use native.Mathlib.Omega.{arith}
use lib.ListN.{length, length-take}
use borrow.Author.Rules.{rules}
use Rattle.transcript.proofs.finish.Goals as goal
use Rattle.transcript.proofs.finish.Goals.{Start}

-- six bytes can be kept
six : (c : Start) → length c.args.line.head ≡ 6
six c = search rules

pub returns-then-line-eq0 : goal.returns-then-line-eq0
unfolding last_text kept_of text_of
returns-then-line-eq0 c = record { result_value = rw c.if-line-eq0.true; len_in_bounds = omega arith }

pub returns : goal.returns
unfolding last_text kept_of
returns c =
    let n = six (goal.at.returns c).Start in
    let z : (length (kept_of c.args.line) ≡ 0 → ⊥) = λ e. c.if-line-eq0.false (let m = simp length-take at e in omega arith) in
    record {
      result_value = rw (ne_eqb _ _ z) (c.ending.ensures.result_value ∙ ap tail_text c.class_of.ensures);
      len_in_bounds = c.ending.ensures.len_in_bounds;
    }
