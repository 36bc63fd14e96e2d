-- No call of the manager sends more than 257 messages, whatever its state: the places of an outbox.
use Rattle.std.specs.Prelude.{◌≤◌, List, [], ◌∷◌, ltb}
use Rattle.std.proofs.Common.{arith, ltb-true}
use Rattle.base.specs.Choice.{cases}
use Rattle.control.specs.Outbox.{empty_of, push_of, send_all}
use Rattle.control.specs.declared.DongleMessage.{DongleMessage}
use Rattle.control.specs.declared.outbox.Outbox.{Outbox}
use Rattle.passes.specs.Sweep.{news}
use Rattle.passes.specs.declared.Terms.{Terms}
use Rattle.manager.specs.Calls.{registering, maintenance, due_of, maintain_of, finish_of, no_table, register_of, start_of, after, sent, handle_of}
use Rattle.manager.specs.Cases.{finish_due, finish_not_due}
use Rattle.manager.specs.declared.Manager.{Manager}
use Rattle.manager.specs.declared.Event.{Event}

push_few : (o : Outbox) (m : DongleMessage) → o.count ≤ 257 → (push_of o m).count ≤ 257
unfolding push_of
push_few o m h = cases _ (ltb o.count 257)
    (λ e. let k = ltb-true o.count 257 e in rw e (omega arith))
    (λ e. rw e h)

send_few : (o : Outbox) (ms : List DongleMessage) → o.count ≤ 257 → (send_all o ms).count ≤ 257
unfolding send_all
send_few o [] h = h
send_few o (m ∷ ms) h = send_few (push_of o m) ms (push_few o m h)

empty_few : empty_of.count ≤ 257
unfolding empty_of
empty_few = omega arith

finish_few : (m : Manager) (o : Outbox) (t : Terms) → o.count ≤ 257 → (finish_of m o t).outbox.count ≤ 257
unfolding maintain_of
finish_few m o t h = cases _ (due_of m.last t.now)
    (λ e. rw (finish_due m o t e) (send_few o (news t maintenance m.table) h))
    (λ e. rw (finish_not_due m o t e) h)

pub handle_few : (m : Manager) (t : Terms) (e : Event) → (handle_of m t e).outbox.count ≤ 257
unfolding handle_of
handle_few m t e = finish_few (after m t e) (send_all empty_of (sent m t e)) t (send_few empty_of (sent m t e) empty_few)

pub start_few : (t : Terms) → (start_of t).outbox.count ≤ 257
unfolding start_of register_of
start_few t = send_few empty_of (news t registering no_table) empty_few
