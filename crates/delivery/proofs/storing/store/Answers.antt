use native.Mathlib.Omega.{arith}
use mathlib.Core.Path.{sym, ◌∙◌}
use Rattle.desk.specs.Core.{desk_of}
use Rattle.delivery.specs.Cases.{listed_le}
use Rattle.delivery.specs.Turns.{answer_whole}
use Rattle.delivery.specs.Storing.{held_next, held_start, held_refused}
use borrow.Author.Rules.{rules}
use Rattle.delivery.proofs.storing.store.Goals as goal

pub returns-then-refuses : goal.returns-then-refuses
returns-then-refuses c =
    let a = c.args in
    record {
      marks_len = search rules;
      held = λ k ps e. held_refused a.replies.now a.marks.now k ps a.response (sym c.refuses.ensures ∙ c.if-refuses.true);
    }

pub loop-i-init : goal.loop-i-init
loop-i-init c =
    (omega arith, rw c.listed-n.ensures (listed_le _), search rules, λ k ps e. held_start _ _ k ps _)

pub loop-i-preserved : goal.loop-i-preserved
loop-i-preserved c =
    let a = c.args in (
      omega arith,
      omega arith,
      c.mark_all.ensures.marks_len,
      λ k ps e. held_next a.response c.loop-i.i c.loop-i.replies c.loop-i.marks c.mark_all.new.marks k c.row-row.result c.pack-packed.result
          c.row-row.ensures.0
          c.pack-packed.ensures
          (rw e c.mark_all.ensures.seats_after)
          (desk_of a.replies.now a.marks.now k)
          ps
          (c.loop-i.invariant.3 k ps e),
    )

pub returns : goal.returns
returns c =
    let a = c.args in
    let n = c.listed-n.ensures in record {
      marks_len = c.loop-i.invariant.2;
      held = λ k ps e.
          let d = desk_of a.replies.now a.marks.now k in
          rw (← answer_whole d ps a.response c.loop-i.i (sym c.refuses.ensures ∙ c.if-refuses.false) (omega arith) (omega arith))
          (c.loop-i.invariant.3 k ps e);
    }
