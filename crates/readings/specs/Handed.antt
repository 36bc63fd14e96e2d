-- What an ask and a collect hand out, in terms of what is read of the history.
use Rattle.clients.specs.Rules.{pid_in, since_in}
use Rattle.std.specs.Prelude.{Option, true, List, ◌++◌, ◌≡◌, ℕ, ◌+◌, ◌-◌, ◌≤◌, length, drop}
use Rattle.std.proofs.Math.Path.{refl, ap}
use Rattle.std.proofs.Common.{sym, ◌∙◌, arith, eq-eqb}
use Rattle.base.specs.Both.{both_left}
use Rattle.base.specs.Choice.{cases, false_true}
use Rattle.cache.specs.Laws.{ask_registered, ask_hands, ask_area_law, step_cache}
use Rattle.cache.specs.Rules.{command_step, step_of, answer_of, handed_of, filled_by, ask_refusal, ask_area}
use Rattle.cache.specs.declared.Answer.{Answer as Asking}
use Rattle.cache.specs.declared.Answer.TheVariants.{Reading, Waiting}
use Rattle.cache.specs.declared.Step.{Step}
use Rattle.cache.specs.declared.Step.TheVariants.{Disconnected, Empty, Unclear, Stored, ToCache}
use Rattle.clients.specs.Rules.{fresh_in}
use Rattle.clients.specs.declared.Wait.{Wait}
use Rattle.desk.specs.Rules.{registered, client_of, fresh, wait_of, stored}
use Rattle.desk.specs.declared.Desk.{Desk}
use Rattle.reply.specs.Rules.{size_of, joined_of}
use Rattle.reply.specs.declared.Reply.{Reply}
use Rattle.waits.specs.After.{Found}
use Rattle.waits.specs.Laws.{collect_found, collect_area_law}
use Rattle.waits.specs.Rules.{awaited, awaited_reply, collected_of, collect_refusal, collect_area}
use Rattle.obd2.specs.Accepted.{accepted_time, accepted_rows}
use Rattle.obd2.specs.Call.{Call, register, ask, collect}
use Rattle.obd2.specs.Done.{ranges, ask_step, manager_by, cache_by, done_of}
use Rattle.obd2.specs.History.{step, lent_by, lent_after, event_of, accepted_by, accepted}
use Rattle.obd2.specs.Keeps.{step_done, accepted_free}
use Rattle.obd2.specs.Refusals.{cache_rows, rows_of, row_refusal, refusal_of}
use Rattle.obd2.specs.State.{lines_of}
use Rattle.obd2.specs.declared.State.{State}
use Rattle.obd2.specs.Answer.{Accepted}
use Rattle.obd2.specs.declared.Said.TheVariants.{Client, Asked, Collected}
use Rattle.readings.specs.Claim.{deed, Due, nothing, delivery, Figures, Handed, AnsweredBy, CacheAsk, Collects, Delivered, Right}
use Rattle.readings.specs.Places.{Placed}
use Rattle.readings.specs.Seen.{some, SeenBox}

-- Only a PID that goes to the cache is waited for.
answer_waits : (d : Desk) (c : ℕ) (st : Step) (p : ℕ) → answer_of d c st ≡ Waiting p → st ≡ ToCache p
unfolding answer_of
answer_waits d c Disconnected p e = cc
answer_waits d c Empty p e = cc
answer_waits d c Unclear p e = cc
answer_waits d c (Stored n) p e = cc
answer_waits d c (ToCache q) p e = cases _ (fresh d c q) (λ f. let a = rw f at e in cc) (λ f. let a = rw f at e in cc)

-- What is fresh is a registered client's.
fresh_here : (d : Desk) (c p : ℕ) → fresh d c p ≡ true → registered d c ≡ true
unfolding fresh
fresh_here d c p e = both_left (registered d c) (fresh_in (client_of d c) p) e

module _ (s : State) (v : Figures) (k : SeenBox s v) (m : Placed v) where
  -- What is fresh is due, and the newest.
  delivered : (c p : ℕ) (x : Due) → v.pending c p ≡ x → some x ≡ true → Delivered c p v
  delivered c p nothing e f = false_true f
  delivered c p (delivery i r) e f = record { place = i; reply = r; due = e; latest = m.is_newest c p i r e }

  fresh_delivered : (c p : ℕ) → fresh s.desk c p ≡ true → Delivered c p v
  fresh_delivered c p f =
      let h = sym (k.is_here c) ∙ fresh_here s.desk c p f in
      delivered c p (v.pending c p) refl (sym (k.is_due c p h) ∙ f)

  module _ (c : Call) (e : refusal_of s c ≡ 0) (r : Reply) (area : List ℕ) where
    handed : lent_after s c ≡ joined_of r ++ drop (size_of r) area → (done_of s c).details ≡ lines_of r.lines r.lengths → Handed r area (event_of s c)
    handed l d = record { joined = l; lines = rw (step_done s c e, d); lengths = rw (step_done s c e, d) }

  -- A number that is given is the next.
  numbered : (t : ℕ) → accepted (event_of s (register t)) ≡ true → (step s (register t)).answer ≡ Accepted (Client (v.given + 1))
  unfolding done_of manager_by
  numbered t a = rw (step_done s (register t) (accepted_free s (register t) a), k.is_given)

  -- An ask.
  module _ (t c : ℕ) (cmd area : List ℕ) where
    abbrev st : Step
    st = ask_step s cmd

    abbrev call : Call
    call = ask t c cmd area

    module _ (e : refusal_of s (ask t c cmd area) ≡ 0) where
      ask_free : ask_refusal s.desk c (ranges s) st (length area) ≡ 0
      unfolding row_refusal rows_of cache_rows ask_refusal
      ask_free = accepted_rows s call e

      ask_answer : (step s call).answer ≡ Accepted (Asked (answer_of s.desk c st))
      unfolding done_of cache_by
      ask_answer = rw (step_done s call e)

      ask_handed : Handed (handed_of s.desk c (ranges s) st) area (event_of s call)
      unfolding done_of cache_by lent_by ask_area
      ask_handed = handed call e _ area (rw e (rw ask_free at (ask_area_law s.desk t c (ranges s) st area ask_free))) refl

      ask_here : v.here c ≡ true
      ask_here = sym (k.is_here c) ∙ ask_registered s.desk t c (ranges s) st (length area) ask_free

      -- For a PID that goes to the cache.
      module _ (p : ℕ) (goes : st ≡ ToCache p) where
        asked_reply : fresh s.desk c p ≡ true → handed_of s.desk c (ranges s) st ≡ stored s.desk p
        unfolding handed_of
        asked_reply f = rw (goes, f)

        asked_by : (x : Due) → v.pending c p ≡ x → AnsweredBy x p area (event_of s call)
        unfolding answer_of
        asked_by nothing q = ask_answer ∙ rw (goes, k.is_due c p ask_here ∙ ap some q)
        asked_by (delivery i r) q =
            let f = k.is_due c p ask_here ∙ ap some q in
            (ask_answer ∙ rw (goes, f), rw (asked_reply f ∙ k.is_kept c p i r q) at ask_handed)

    cache_step : (p : ℕ) → CacheAsk v cmd p → st ≡ ToCache p
    unfolding step_of command_step
    cache_step p x = rw (k.is_up ∙ x.stands, x.command)

    ask_right : (p : ℕ) → accepted (event_of s call) ≡ true → CacheAsk v cmd p → (v.here c ≡ true) × AnsweredBy (v.pending c p) p area (event_of s call)
    ask_right p a x = let e = accepted_free s call a in (ask_here e, asked_by e p (cache_step p x) (v.pending c p) refl)

    goes_cache : (p : ℕ) → st ≡ ToCache p → CacheAsk v cmd p
    goes_cache p e = let x = step_cache s.poller.link.connected (ranges s) cmd p e in record { stands = sym k.is_up ∙ x.0; command = x.1 }

    answered : (a : Asking) → (step s call).answer ≡ Accepted (Asked a) → answer_of s.desk c st ≡ a
    answered a q = let x = ask_answer (accepted_free s call (ap accepted_by q)) in cc

    only_reads : (p : ℕ) → (step s call).answer ≡ Accepted (Asked (Reading p)) → CacheAsk v cmd p
    only_reads p q = goes_cache p (ask_hands s.desk c (ranges s) st p (rw (answered (Reading p) q) (eq-eqb p p refl))).to_cache

    only_waits : (p : ℕ) → (step s call).answer ≡ Accepted (Asked (Waiting p)) → CacheAsk v cmd p
    only_waits p q = goes_cache p (answer_waits s.desk c st p (answered (Waiting p) q))

  -- A collect.
  module _ (t c : ℕ) (area : List ℕ) (e : refusal_of s (collect t c area) ≡ 0) where
    abbrev wait : Option Wait
    wait = v.wait c

    collect_free : collect_refusal s.desk c (length area) ≡ 0
    unfolding row_refusal rows_of cache_rows collect_refusal
    collect_free = accepted_rows s (collect t c area) e

    found : Found s.desk c (length area)
    found = collect_found s.desk c (length area) collect_free

    wait_is : wait_of s.desk c ≡ wait
    wait_is = k.is_wait c

    pid_is : awaited s.desk c ≡ (pid_in wait)
    pid_is = ap pid_in wait_is

    collect_due : Delivered c (pid_in wait) v
    collect_due = fresh_delivered c (pid_in wait) (rw pid_is at found.was_fresh)

    collect_reply : awaited_reply s.desk c ≡ collect_due.reply
    collect_reply = rw pid_is (k.is_kept c (pid_in wait) collect_due.place collect_due.reply collect_due.due)

    collect_handed : Handed (awaited_reply s.desk c) area (event_of s (collect t c area))
    unfolding done_of cache_by lent_by filled_by collect_area collected_of
    collect_handed = handed (collect t c area) e _ area (rw e (rw collect_free at (collect_area_law s.desk t c area collect_free))) refl

    collect_answer : (step s (collect t c area)).answer ≡ Accepted (Collected (pid_in wait) (t - since_in wait))
    unfolding done_of cache_by collected_of
    collect_answer = rw (step_done s (collect t c area) e, wait_is)

    collect_since : since_in wait ≤ t
    collect_since =
        let a = rw wait_is at (k.is_past c) in
        let b = (accepted_time s (collect t c area) e).0 in
        omega arith

    collected : (v.here c ≡ true) × Collects v t c area (event_of s (collect t c area))
    collected = (
      sym (k.is_here c) ∙ found.known,
      record {
        waited = rw wait_is at found.waiting;
        since_then = collect_since;
        due = collect_due;
        named = collect_answer;
        hands = rw collect_reply at collect_handed;
      },
    )

  pub right : (call : Call) → ((c p : ℕ) → (deed (event_of s call)).hands c p ≡ true → fresh s.desk c p ≡ true) → Right v (event_of s call)
  right call f =
      record {
        numbered = λ t q a. rw q (numbered t (rw q at a));
        asked = λ t c p cmd area q a x. rw q (ask_right t c cmd area p (rw q at a) x);
        only_reading = λ t c p cmd area q a. only_reads t c cmd area p (rw q at a);
        only_waiting = λ t c p cmd area q a. only_waits t c cmd area p (rw q at a);
        collected = λ t c area q a. rw q (collected t c area (accepted_free s (collect t c area) (rw q at a)));
        handed_newest = λ c p g. fresh_delivered c p (f c p g);
      }
