-- What each call sends makes of every PID's speed by the table before what it is by the table after, and is never
-- more than 257 messages, in whatever state the manager is.
use mathlib.Core.List.{List, [], ◌++◌, append-nil}
use Rattle.std.specs.Prelude.{◌≡◌, ℕ, zero, suc, ◌+◌, ◌<◌, ◌≤◌, eqb, length, get_or, replicate}
use Rattle.std.proofs.Math.Path.{refl}
use Rattle.std.proofs.Common.{ap, sym, ◌∙◌, arith, length-append, length-set, get_or-set_same, get_or-set_other, eqb-true}
use Rattle.std.proofs.lemmas.List.{length-replicate}
use Rattle.std.proofs.lemmas.Bool.{eqb-false}
use Rattle.base.specs.Choice.{cases}
use Rattle.control.specs.Speed.{untracked, after_all, after_append}
use Rattle.control.specs.Names.{Named, named_none, named_append}
use Rattle.control.specs.Outbox.{empty_of, send_all, messages, send_append, sent_messages, sent_count}
use Rattle.control.specs.Told.{told_length, told_own, told_other}
use Rattle.control.specs.declared.DongleMessage.{DongleMessage}
use Rattle.control.specs.declared.outbox.Outbox.{Outbox}
use Rattle.pid_table.specs.Entry.{nobody, speed}
use Rattle.pid_table.specs.declared.PidInfo.{PidInfo}
use Rattle.passes.specs.Sweep.{through, news, speed_at}
use Rattle.passes.specs.Laws.{through_length, news_append, news_speeds, news_few, upkeep_once, register_once, registering_once}
use Rattle.passes.specs.declared.Terms.{Terms}
use Rattle.manager.specs.Calls.{with_table, registering, maintenance, due_of, maintain_of, finish_of, no_table, register_of, start_of, entry_set, entry_told, waiting_at, consumed_at, after, sent, handle_of}
use Rattle.manager.specs.Tells.{Tells, finish_sent, Names}
use Rattle.manager.specs.Names.{news_named, entry_named}
use Rattle.manager.specs.Cases.{finish_due, finish_not_due}
use Rattle.manager.specs.declared.Manager.{Manager}
use Rattle.manager.specs.declared.Event.{Event}
use Rattle.manager.specs.declared.Event.TheVariants.{ProfilePidsChanged, Waiting, Consumed, Nothing}

pub finish_named : (m : Manager) (t : Terms) → length m.table ≡ 256 → Named 256 (finish_sent m t)
unfolding finish_sent
finish_named m t w =
    cases _ (due_of m.last t.now)
    (λ e. rw e (news_named t maintenance 256 m.table (omega arith)))
    (λ e. rw e (named_none 256))

module _ (m : Manager) (t : Terms) where
  pub finish_outbox : (ms : List DongleMessage) → (finish_of m (send_all empty_of ms) t).outbox ≡ send_all empty_of (ms ++ finish_sent m t)
  unfolding finish_sent maintain_of
  finish_outbox ms = cases _ (due_of m.last t.now)
      (λ e. rw (finish_due m (send_all empty_of ms) t e, e) (sym (send_append empty_of ms (news t maintenance m.table))))
      (λ e. rw (finish_not_due m (send_all empty_of ms) t e, e, append-nil ms))

  finish_whole : (o : Outbox) → length (finish_of m o t).manager.table ≡ length m.table
  unfolding maintain_of
  finish_whole o = cases _ (due_of m.last t.now)
      (λ e. rw (finish_due m o t e) (through_length t maintenance m.table))
      (λ e. rw (finish_not_due m o t e))

  finish_speeds : (o : Outbox) (q : ℕ) → after_all (finish_sent m t) q (speed_at m.table q) ≡ speed_at (finish_of m o t).manager.table q
  unfolding finish_sent maintain_of after_all
  finish_speeds o q = cases _ (due_of m.last t.now)
      (λ e. rw (finish_due m o t e, e) (news_speeds t maintenance m.table q))
      (λ e. rw (finish_not_due m o t e, e))

  finish_few : length (finish_sent m t) ≤ length m.table
  unfolding finish_sent
  finish_few = cases _ (due_of m.last t.now)
      (λ e. rw e (news_few t maintenance m.table (λ q x. upkeep_once t q x)))
      (λ e. rw e (omega arith))

  -- An event that told this, and then the end of the call.
  event_tells : (before : List PidInfo) (ms : List DongleMessage) → length m.table ≡ 256 → length (ms ++ finish_sent m t) ≤ 257
      → ((q : ℕ) → after_all ms q (speed_at before q) ≡ speed_at m.table q) → Named 256 ms → Tells before (ms ++ finish_sent m t) (finish_of m (send_all empty_of ms) t)
  event_tells before ms w f h k =
      let sent = ms ++ finish_sent m t in
      let o = finish_outbox ms in
      let n = ap (λ (b : Outbox). b.count) o ∙ sent_count sent f in
      let said = ap messages o ∙ sent_messages sent f in
      record {
        whole = finish_whole (send_all empty_of ms) ∙ w;
        said = said;
        few = omega arith;
        counted = ap length said ∙ sym n;
        agrees = λ q. rw (said, after_append ms (finish_sent m t) q (speed_at before q), h q) (finish_speeds (send_all empty_of ms) q);
        small = rw said (named_append 256 ms (finish_sent m t) k (finish_named m t w));
      }

-- One entry changed.
entry_speeds : (f : PidInfo → PidInfo) (p : ℕ) (xs : List PidInfo) (q : ℕ) → p < length xs
    → after_all (entry_told f p xs) q (speed_at xs q) ≡ speed_at (entry_set f p xs) q
unfolding entry_told entry_set speed_at
entry_speeds f p xs q h = cases _ (eqb p q)
    (λ e. let z = eqb-true p q e in
    rw (← z) (rw (get_or-set_same xs p (f (get_or xs p nobody)) nobody h) (told_own p (speed (get_or xs p nobody)) (speed (f (get_or xs p nobody))))))
    (λ e. let z : (p ≡ q → ⊥) = eqb-false p q e in
    rw (get_or-set_other xs p q (f (get_or xs p nobody)) nobody (λ y. z (sym y)))
    (told_other p q (speed (get_or xs p nobody)) (speed (f (get_or xs p nobody))) (speed (get_or xs q nobody)) e))

-- An event at one entry: whatever it makes of the metrics.
entry_tells : (m k : Manager) (t : Terms) (f : PidInfo → PidInfo) (p : ℕ) → length m.table ≡ 256 → p < 256 → k.table ≡ entry_set f p m.table
    → Tells m.table (entry_told f p m.table ++ finish_sent k t) (finish_of k (send_all empty_of (entry_told f p m.table)) t)
unfolding entry_told entry_set
entry_tells m k t f p w h e =
    let ms = entry_told f p m.table in
    let x = get_or m.table p nobody in
    let l : length k.table ≡ 256 = ap length e ∙ simp length-set w in
    let n = told_length p (speed x) (speed (f x)) in
    event_tells k t m.table ms l (rw (length-append ms (finish_sent k t)) (let d = finish_few k t in omega arith))
    (λ q. entry_speeds f p m.table q (omega arith) ∙ ap (λ (xs : List PidInfo). speed_at xs q) (sym e))
    (entry_named f p 256 m.table h)

module _ (m : Manager) (t : Terms) (w : length m.table ≡ 256) where
  changed_few : length (news t registering m.table ++ finish_sent (with_table m (through t registering m.table)) t) ≤ 256
  unfolding finish_sent
  changed_few = cases _ (due_of m.last t.now)
      (λ e. rw (e, ← (news_append t registering maintenance m.table)) (rw w at (news_few t (registering ++ maintenance) m.table (λ q x. register_once t q x))))
      (λ e. rw (e, append-nil (news t registering m.table)) (rw w at (news_few t registering m.table (λ q x. registering_once t q x))))

  -- EVERY CALL tells what its event and its maintenance made of the table.
  pub handle_tells : (e : Event) → Names e → Tells m.table (sent m t e ++ finish_sent (after m t e) t) (handle_of m t e)
  unfolding handle_of after sent after_all
  handle_tells ProfilePidsChanged h =
      let n = changed_few in
      event_tells (with_table m (through t registering m.table)) t m.table (news t registering m.table) (through_length t registering m.table ∙ w) (omega arith)
      (λ q. news_speeds t registering m.table q)
      (news_named t registering 256 m.table (omega arith))
  handle_tells (Waiting p) h = entry_tells m (after m t (Waiting p)) t (waiting_at t) p w h refl
  handle_tells (Consumed p d) h = entry_tells m (after m t (Consumed p d)) t (consumed_at t d) p w h refl
  handle_tells Nothing h = event_tells m t m.table [] w (let n = finish_few m t in omega arith) (λ q. refl) (named_none 256)

pub no_whole : length no_table ≡ 256
unfolding no_table
no_whole = length-replicate 256 nobody

pub start_tells : (t : Terms) → Tells no_table (news t registering no_table) (start_of t)
unfolding start_of register_of
start_tells t =
    let sent = news t registering no_table in
    let f : length sent ≤ 257 = let n = news_few t registering no_table (λ q x. registering_once t q x) in let z = no_whole in omega arith in
    let n = sent_count sent f in
    record {
      whole = through_length t registering no_table ∙ no_whole;
      said = sent_messages sent f;
      few = omega arith;
      counted = ap length (sent_messages sent f) ∙ sym n;
      agrees = λ q. rw (sent_messages sent f) (news_speeds t registering no_table q);
      small = rw (sent_messages sent f) (news_named t registering 256 no_table (let z = no_whole in omega arith));
    }

everywhere : (n q : ℕ) → get_or (replicate n nobody) q nobody ≡ nobody
everywhere zero q = refl
everywhere (suc n) zero = refl
everywhere (suc n) (suc q) = everywhere n q

-- Nothing is tracked before the start.
pub none_speed : (q : ℕ) → speed_at no_table q ≡ untracked
unfolding speed_at no_table speed
none_speed q = ap speed (everywhere 256 q)
