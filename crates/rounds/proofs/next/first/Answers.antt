use Rattle.std.proofs.Common.{ℕ, Option, sym, ap, ◌∙◌}
use Rattle.std.specs.Prelude.{is_some}
use Rattle.std.specs.Option.{unwrap_or}
use Rattle.rounds.specs.Cases.{first_some, first_none}
use Rattle.rounds.specs.Core.{next_ends}
use Rattle.poller.specs.Core.{with_polled, fast_row, poller_of}
use Rattle.rounds.proofs.next.first.Goals as goal

pub returns-in_default : goal.returns-in_default
returns-in_default c =
    λ x.
    let a = c.args in
    let y = with_polled x a.polled.now in
    let e = rw c.fast-list.ensures at c.next-picked.ensures in
    c.slow.ensures y ∙ sym (first_none (poller_of y a.p) a.time (rw e at (ap is_some c.in_default.is)))

pub returns : goal.returns
returns c =
    λ x.
    let a = c.args in
    let y = with_polled x a.polled.now in
    let e = rw c.fast-list.ensures at c.next-picked.ensures in
    let q = rw e at c.in-Some.is in
    let some = first_some (poller_of y a.p) a.time (ap is_some q) in
    let pid = ap (λ (o : Option ℕ). unwrap_or o 0) q in
    c.issue.ensures y
    ∙ rw (c.single.ensures, c.ends_of-p.ensures, c.more.ensures, e, next_ends a.polled.now fast_row a.p.fast, some, ← pid)
