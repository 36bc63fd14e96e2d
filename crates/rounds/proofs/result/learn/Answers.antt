use Rattle.std.proofs.Common.{rules, arith, ◌≡◌, ℕ, ◌+◌, min, refl, sym, ap, ◌∙◌, length, drop, take, length-take}
use Rattle.std.proofs.Math.Seq.{get_or-take}
use Rattle.poller.specs.State.{pids_of}
use Rattle.poller.specs.declared.Query.{Query}
use Rattle.rounds.specs.declared.Lessons.{Lessons}
use Rattle.rounds.specs.Result.{teach_all, learn_of}
use Rattle.rounds.specs.Cases.{teach_turn, teach_end}
use Rattle.rounds.proofs.result.learn.Goals as goal
use Rattle.rounds.proofs.result.learn.Goals.{Start}

six : (c : Start) → length c.args.q.pids ≡ 6
six c = search rules

-- The query's PIDs, however many its count says.
many : (q : Query) (n : ℕ) → length q.pids ≡ 6 → n ≡ min q.count 6 → length (pids_of q) ≡ length (take n q.pids)
unfolding pids_of
many q n s e = rw (length-take n q.pids, length-take q.count q.pids) (omega arith)

pub loop-i-init : goal.loop-i-init
unfolding learn_of
loop-i-init c = refl

pub loop-i-preserved : goal.loop-i-preserved
unfolding pids_of
loop-i-preserved c =
    let q = c.args.q in
    let i = c.loop-i.i in
    let ls = c.args.learnt in
    let s = six (goal.at.loop-i-preserved c).Start in
    let n = many q c.min.result s (omega arith) in
    let m = length-take c.min.result q.pids in
    let a = get_or-take c.min.result q.pids i 0 (omega arith) in
    let b = get_or-take q.count q.pids i 0 (omega arith) in
    ap (λ (k : Lessons). teach_all k (drop (i + 1) (pids_of q)) (drop (i + 1) ls)) (rw (a, ← b) at c.teach-k.ensures)
    ∙ sym (teach_turn c.loop-i.k (pids_of q) ls i (omega arith)) ∙ c.loop-i.invariant

pub returns : goal.returns
unfolding pids_of
returns c =
    let q = c.args.q in
    let s = six (goal.at.returns c).Start in
    let n = many q c.min.result s (omega arith) in
    sym (teach_end c.loop-i.k (pids_of q) c.args.learnt c.loop-i.i (omega arith)) ∙ c.loop-i.invariant
