-- `transcript::ending` meets its contract: nine bytes have room for what follows a line.
use Rattle.transcript.specs.Lines.{tail_text, text_of}
use Rattle.transcript.specs.Laws.{tail_length, front_taken}
use Rattle.writing.specs.Added.{added_fits}
use Prim.Native.Nat.{ℕ, ◌≤◌}
use mathlib.Core.Path.{◌≡◌, ◌∙◌}
use mathlib.Core.List.{List, [], ◌∷◌}
use native.Mathlib.Omega.{arith}
use lib.ListN.{length}
use borrow.Author.Rules.{rules}
use Rattle.transcript.proofs.ending.Goals as goal

pub returns : goal.returns
unfolding text_of
returns c =
    let w = tail_text c.args.c in
    let l = tail_length c.args.c in
    let t : c.tail.new.out ≡ w = c.tail.ensures.text_is ∙ rw c.new-out.ensures (added_fits _ [] _ (omega arith)) in
    let s : c.as_slice-s.result.now ≡ w = c.as_slice-s.ensures.text ∙ t in
    let n : length c.as_slice-s.result.now ≤ 9 = rw s l in
    let k : length c.copy.new.to ≡ 9 = search rules in
    let blank : List ℕ = 0 ∷ 0 ∷ 0 ∷ 0 ∷ 0 ∷ 0 ∷ 0 ∷ 0 ∷ 0 ∷ [] in
    record {
      result_value = rw (c.copy.ensures, s) (front_taken blank w l);
      len_in_bounds = omega arith;
    }
