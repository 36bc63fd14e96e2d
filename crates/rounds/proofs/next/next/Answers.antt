use Rattle.std.specs.Prelude.{◌≡◌, ℕ, Bool, List, [], get_or}
use mathlib.Core.Path.{refl, sym, ◌∙◌}
use Rattle.poller.specs.Core.{held, counts_row, poller_of}
use Rattle.poller.specs.declared.Phase.{Phase}
use Rattle.poller.specs.declared.Phase.TheVariants.{Closed, First, FastDue, Test, SlowDue, Multi, MultiDue, Over}
use Rattle.poller.specs.declared.Poller.{Poller}
use Rattle.poller.specs.declared.rest.Core.{Core}
use Rattle.rounds.specs.Cases.{next_in, next_all}
use Rattle.rounds.specs.Core.{stepped_in}
use Rattle.rounds.specs.Next.{end_of, step_in, next_of}
use Rattle.rounds.specs.Numbers.{step_values, values_from}
use Rattle.rounds.specs.declared.Moved.{Moved}
use Rattle.rounds.proofs.next.next.Goals as goal

-- The clauses, each under its name.
named_by_index_due_value : {A B : Type 0} → A × B → record { by_index : A; due_value : B }
named_by_index_due_value p = record { by_index = p.0; due_value = p.1 }

-- The phases that have no step of their own.
ends : (x : Phase) (p : Poller) (t : ℕ) → (x ≡ First → ⊥) → (x ≡ Test → ⊥) → (x ≡ Multi → ⊥) → end_of p ≡ step_in x p t
ends Closed p t f s m = refl
ends First p t f s m = absurd (f refl)
ends FastDue p t f s m = refl
ends Test p t f s m = absurd (s refl)
ends SlowDue p t f s m = refl
ends Multi p t f s m = absurd (m refl)
ends MultiDue p t f s m = refl
ends Over p t f s m = refl

-- All that `next` promises, from its equation.
both : (polled : List (List ℕ)) (known : List (List Bool)) (order : List ℕ) (p : Core) (t : ℕ) (r : Moved)
    → ((ranges : List (List ℕ)) → let x = held polled known order ranges in stepped_in x r ≡ next_of (poller_of x p) t)
    → ((ranges : List (List ℕ)) → let x = held polled known order ranges in stepped_in x r ≡ next_of (poller_of x p) t)
    × (step_values r.step r.core.round.due ≡ values_from (get_or polled counts_row []) p.round.issued r.step r.core.round.due)
both polled known order p t r e = (e, (next_all (poller_of (held polled known order []) p) t (e [])).1)

pub returns-in-First : goal.returns-in-First
returns-in-First c =
    named_by_index_due_value (let a = c.args in
    both a.polled.now a.known.now a.order.now a.p a.time c.first.result
    (λ ranges.
    let x = held a.polled.now a.known.now a.order.now ranges in
    c.first.ensures x ∙ sym (next_in (poller_of x a.p) a.time c.in-First.is)))

pub returns-in-Test : goal.returns-in-Test
returns-in-Test c =
    named_by_index_due_value (let a = c.args in
    both a.polled.now a.known.now a.order.now a.p a.time c.slow.result
    (λ ranges.
    let x = held a.polled.now a.known.now a.order.now ranges in
    c.slow.ensures x ∙ sym (next_in (poller_of x a.p) a.time c.in-Test.is)))

pub returns-in-Multi : goal.returns-in-Multi
returns-in-Multi c =
    named_by_index_due_value (let a = c.args in
    both a.polled.now a.known.now a.order.now a.p a.time c.multi.result
    (λ ranges.
    let x = held a.polled.now a.known.now a.order.now ranges in
    c.multi.ensures ranges ∙ sym (next_in (poller_of x a.p) a.time c.in-Multi.is)))

pub returns-in_default : goal.returns-in_default
returns-in_default c =
    named_by_index_due_value (let a = c.args in
    both a.polled.now a.known.now a.order.now a.p a.time c.end.result
    (λ ranges.
    let x = held a.polled.now a.known.now a.order.now ranges in
    let p = poller_of x a.p in
    c.end.ensures x ∙ ends a.p.round.phase p a.time c.in_default.not-First c.in_default.not-Test c.in_default.not-Multi ∙ sym (next_in p a.time refl)))
