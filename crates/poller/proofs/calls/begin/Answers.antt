use mathlib.Core.Path.{sym, ◌∙◌}
use borrow.Author.Tests.{not-true, not-false}
use Rattle.poller.specs.Cases.{begin_over, begin_multi, begin_single}
use Rattle.poller.specs.Core.{held, fixed_row, polled_rows, fixed_lengths_row, known_rows, poller_of, put_length, planned}
use Rattle.poller.proofs.calls.begin.Goals as goal

-- The clauses, each under its name.
named_polled_len_2_known_len_2_by_index : {A B C : Type 0} → A × (B × C) → record { polled_len_2 : A; known_len_2 : B; by_index : C }
named_polled_len_2_known_len_2_by_index p = record { polled_len_2 = p.0; known_len_2 = p.1.0; by_index = p.1.1 }

pub returns-then-not-link : goal.returns-then-not-link
returns-then-not-link c =
    named_polled_len_2_known_len_2_by_index (let a = c.args in (
      c.requires.polled_len,
      (
        c.requires.known_len,
        λ ranges.
            let x = held a.polled.now a.known.now a.order.now ranges in
            rw (begin_over (poller_of x a.p) a.settings (not-true a.p.link.connected c.if-not-link.true), c.opened-p.ensures),
      ),
    ))

pub returns-then-multi_allowed : goal.returns-then-multi_allowed
returns-then-multi_allowed c =
    named_polled_len_2_known_len_2_by_index (let a = c.args in
    let p = a.polled.now in
    let n = a.known.now in
    let e = c.keep-p.ensures in
    let plan = c.make-plan.result in
    let long = c.requires.polled_len in
    let both = c.requires.known_len in (
      rw e.polled_after (put_length p fixed_row plan.counts polled_rows long),
      (
        rw e.known_after (put_length n fixed_lengths_row plan.known known_rows both),
        λ ranges.
            let x = held p n a.order.now ranges in
            let allowed = sym (rw c.refuses-denied.ensures at c.multi_allowed.ensures) ∙ c.if-multi_allowed.true in
            let up = not-false a.p.link.connected c.if-not-link.false in
            let made = rw (c.slow-others.ensures, c.fast-had.ensures) at c.make-plan.ensures in
            rw (e.polled_after, e.known_after, e.order_after, e.value, c.opened-p-then-multi_allowed.ensures)
            (planned x a.p plan a.settings _ long both ∙ rw (begin_multi (poller_of x a.p) a.settings up allowed, ← made)),
      ),
    ))

pub returns : goal.returns
returns c =
    named_polled_len_2_known_len_2_by_index (let a = c.args in (
      c.requires.polled_len,
      (
        c.requires.known_len,
        λ ranges.
            let x = held a.polled.now a.known.now a.order.now ranges in
            let denied = sym (rw c.refuses-denied.ensures at c.multi_allowed.ensures) ∙ c.if-multi_allowed.false in
            rw (begin_single (poller_of x a.p) a.settings (not-false a.p.link.connected c.if-not-link.false) denied, c.opened-p-2.ensures),
      ),
    ))
