use Rattle.std.proofs.Common.{ℕ, Option, ◌≡◌, true, false, sym, ap, ◌∙◌}
use Rattle.std.specs.Prelude.{is_some, ◌&&◌}
use Rattle.std.specs.Option.{unwrap_or}
use Rattle.pid_list.specs.Rules.{found, next_of as nextPid}
use Rattle.rounds.specs.Cases.{slow_not, slow_sent, slow_unsent}
use Rattle.rounds.specs.Core.{next_ends}
use Rattle.poller.specs.Core.{with_polled, slow_row, poller_of, list_of}
use Rattle.rounds.proofs.next.slow.Goals as goal
use Rattle.rounds.proofs.next.slow.Goals.{in_default-via-in-Some+else-p, in_default-via-in_default}

pub returns-then-not-slow_due : goal.returns-then-not-slow_due
returns-then-not-slow_due c =
    λ x.
    let a = c.args in
    let y = with_polled x a.polled.now in
    c.end.ensures y ∙ sym (slow_not (poller_of y a.p) a.time (sym c.slow_due.ensures ∙ c.if-not-slow_due.true))

pub returns-in-Some : goal.returns-in-Some
returns-in-Some c =
    λ x.
    let a = c.args in
    let y = with_polled x a.polled.now in
    let e = rw c.slow-list.ensures at c.next-picked.ensures in
    let q = rw e at c.in-Some.is in
    let sent : (found (nextPid (list_of a.polled.now slow_row a.p.slow)) && a.p.link.connected) ≡ true = rw (ap is_some q, c.if-p.true) in
    let pid = ap (λ (o : Option ℕ). unwrap_or o 0) q in
    let passed = sym c.slow_due.ensures ∙ c.if-not-slow_due.false in
    c.issue.ensures y
    ∙ rw (c.single.ensures, c.ends_of-p.ensures, e, next_ends a.polled.now slow_row a.p.slow, slow_sent (poller_of y a.p) a.time passed sent, ← pid)

pub returns-in_default : goal.returns-in_default
returns-in_default c =
    λ x.
    let a = c.args in
    let y = with_polled x a.polled.now in
    let e = rw c.slow-list.ensures at c.next-picked.ensures in
    let unsent : (found (nextPid (list_of a.polled.now slow_row a.p.slow)) && a.p.link.connected) ≡ false
    = elim c.in_default.branch [
      | in_default-via-in-Some+else-p w ↦ rw (ap is_some (rw e at w.in-Some.is), w.if-p.false)
      | in_default-via-in_default w ↦ rw (ap is_some (rw e at w.in_default.is))
    ] in
    let passed = sym c.slow_due.ensures ∙ c.if-not-slow_due.false in
    c.end-in_default.ensures y
    ∙ rw (c.ends_of-p.ensures, e, next_ends a.polled.now slow_row a.p.slow, slow_unsent (poller_of y a.p) a.time passed unsent)
