use mathlib.Core.Path.{◌≡◌, sym, ◌∙◌}
use native.Mathlib.Omega.{arith}
use lib.ListN.{length, length-set}
use borrow.Author.Rules.{rules}
use borrow.Author.Tests.{eq-eqb, ne_eqb}
use Rattle.base.specs.Each.{each_none, each_all}
use Rattle.clients.specs.Rules.{places, marked_of}
use Rattle.clients.specs.Seats.{clients_length, mark_taken, mark_free}
use Rattle.clients.proofs.seats.mark_all.Goals as goal
use Rattle.clients.proofs.seats.mark_all.Goals.{else-seat-ne0, then-seat-ne0}

pub loop-i-init : goal.loop-i-init
loop-i-init c = (search rules, sym (each_none _ _))

pub loop-i-preserved : goal.loop-i-preserved
loop-i-preserved c =
    let rows = c.loop-i.marks in
    let i = c.loop-i.i in
    let l : length c.args.seats ≡ places = search rules in
    let m = clients_length c.args.marks.now c.args.seats in
    let long = c.loop-i.invariant.0 in
    let e = c.loop-i.invariant.1 in
    elim c.if-seat-ne0.branch [
      | then-seat-ne0 w ↦ (
        rw w.marks-is (simp length-set long),
        rw w.marks-is (mark_taken c.args.pid rows c.args.seats _ i (omega arith) m e (omega arith) (ne_eqb _ _ w.if-seat-ne0.true)),
      )
      | else-seat-ne0 w ↦ (
        rw w.marks-is long,
        rw w.marks-is (mark_free c.args.pid rows c.args.seats _ i (omega arith) m e (eq-eqb _ _ w.if-seat-ne0.false)),
      )
    ]

pub returns : goal.returns
returns c =
    let i = c.loop-i.i in
    let m = clients_length c.args.marks.now c.args.seats in
    let l : length c.args.seats ≡ places = search rules in
    record {
      marks_len = c.loop-i.invariant.0;
      seats_after = c.loop-i.invariant.1 ∙ each_all (marked_of c.args.pid) i _ (omega arith);
    }
