-- What a response does to the desk: who is registered, what is fresh for whom, who waits, and the newest replies.
use Rattle.std.specs.Prelude.{Bool, ◌&&◌, ◌||◌, ◌≡◌, eqb}
use Rattle.std.proofs.Math.Bool.{true, false}
use mathlib.Core.List.{[]}
use Rattle.std.proofs.Math.Path.{refl, ap, sym}
use Rattle.std.proofs.Common.{◌∙◌, arith, get_or-set_same, get_or-set_other}
use Prim.Native.Nat.{ℕ, zero, suc, ◌<◌}
use Rattle.std.proofs.Math.ListN.{length-set, length-map}
use borrow.Author.Tests.{eqb-true, eqb-false, ne_eqb}
use Rattle.base.specs.Both.{never}
use Rattle.base.specs.Choice.{pick, cases}
use Rattle.base.specs.Refusal.{not_here}
use Rattle.clients.specs.Rules.{registered_of, numbers_of, marked_of}
use Rattle.clients.specs.Laws.{place_map, find_map, numbers_map, marked_number, marked_wait, marked_long, marked_nobody, marked_fresh, registered_some}
use Rattle.config.specs.declared.Profiles.{Profiles}
use Rattle.desk.specs.Rules.{registered, client_of, fresh, wait_of, stored}
use Rattle.desk.specs.Laws.{client_number}
use Rattle.desk.specs.Sound.{Sound, After}
use Rattle.desk.specs.declared.Desk.{Desk}
use Rattle.reply.specs.Rules.{no_reply}
use Rattle.reply.specs.declared.Reply.{Reply}
use Rattle.reply.specs.declared.Response.{Response}
use Rattle.delivery.specs.Rules.{unfit, response_refusal, deliver_of, pid_at, reply_at, value_at, turn_of, turns_of, unanswered, response_of, arrives_in, newest_in, arrives, newest_of}
use Rattle.delivery.specs.Cases.{response_taken}
use Rattle.delivery.specs.declared.Answered.{Answered}

-- One reply that comes.
module _ (d : Desk) (s : Sound d) (p : ℕ) (y : Reply) (v : ℕ) (h : p < 256) where
  abbrev told : Desk
  told = deliver_of p y v d

  told_registered : (c : ℕ) → registered told c ≡ registered d c
  unfolding registered registered_of deliver_of
  told_registered c = rw (place_map (marked_of p) (marked_number p) d.clients c)

  told_client : (c : ℕ) → client_of told c ≡ marked_of p (client_of d c)
  unfolding client_of deliver_of
  told_client c = find_map (marked_of p) (marked_number p) (marked_nobody p) d.clients c

  some : (c : ℕ) → registered d c ≡ true → eqb (client_of d c).number 0 ≡ false
  unfolding registered
  some c r = ne_eqb (client_of d c).number 0 (λ e. registered_some d.clients c r (sym (client_number d s c r) ∙ e))

  told_fresh : (c q : ℕ) → fresh told c q ≡ (fresh d c q || (registered d c && eqb p q))
  unfolding fresh
  told_fresh c q = cases _ (registered d c)
      (λ r.
      let m = marked_fresh (client_of d c) p q (λ z. rw (s.marks c r) h) in
      rw (told_registered c ∙ r, r, told_client c) (rw (some c r) at m))
      (λ r. rw (told_registered c ∙ r, r))

  told_waits : (c : ℕ) → wait_of told c ≡ wait_of d c
  unfolding wait_of
  told_waits c = rw (told_registered c, told_client c, marked_wait p (client_of d c))

  told_stored : (q : ℕ) → stored told q ≡ pick (eqb p q) y (stored d q)
  unfolding stored deliver_of
  told_stored q = cases _ (eqb p q)
      (λ f. rw (f, ← eqb-true p q f) (get_or-set_same d.store p y no_reply (rw s.whole h)))
      (λ f. rw f (get_or-set_other d.store p q y no_reply (λ e. eqb-false p q f (sym e))))

  told_numbers : numbers_of told.clients ≡ numbers_of d.clients
  unfolding deliver_of
  told_numbers = numbers_map (marked_of p) (marked_number p) d.clients

  told_sound : Sound told
  unfolding deliver_of
  told_sound =
      record {
        eight = length-map d.clients (marked_of p) ∙ s.eight;
        whole = length-set d.store p y ∙ s.whole;
        marks = λ c r. rw (told_client c) (marked_long p (client_of d c) ∙ s.marks c (sym (told_registered c) ∙ r));
        once = λ c z. rw told_numbers (s.once c z);
        below = λ c k. rw told_numbers (s.below c k);
      }

none : (f g : Bool) → f ≡ (f || (g && false))
none true g = refl
none false true = refl
none false false = refl

also : (f g a b : Bool) → ((f || (g && a)) || (g && b)) ≡ (f || (g && (a || b)))
also true g a b = refl
also false true a b = refl
also false false a b = refl

module _ (r : Response) (bytes : (i : ℕ) → pid_at r i < 256) where
  turns_after : (k i : ℕ) (a : Answered) → Sound a.desk
      → After
      (turns_of k i r a).desk
      (registered a.desk)
      (λ c p. fresh a.desk c p || (registered a.desk c && arrives_in k i r p))
      (wait_of a.desk)
      (λ p. newest_in k i r p (stored a.desk p))
  unfolding turn_of turns_of arrives_in newest_in
  turns_after zero i a s =
      record {
        is_registered = λ c. refl;
        is_fresh = λ c p. none (fresh a.desk c p) (registered a.desk c);
        waits = λ c. refl;
        newest = λ p. refl;
        sound = s;
      }
  turns_after (suc k) i a s =
      let d = a.desk in
      let p = pid_at r i in
      let y = reply_at r i in
      let v = value_at r i in
      let h = bytes i in
      let t = turns_after k (suc i) (turn_of r i a) (told_sound d s p y v h) in
      record {
        is_registered = λ c. t.is_registered c ∙ told_registered d s p y v h c;
        is_fresh = λ c q. t.is_fresh c q
            ∙ rw (told_fresh d s p y v h c q, told_registered d s p y v h c) (also (fresh d c q) (registered d c) (eqb p q) (arrives_in k (suc i) r q));
        waits = λ c. t.waits c ∙ told_waits d s p y v h c;
        newest = λ q. t.newest q ∙ ap (newest_in k (suc i) r q) (told_stored d s p y v h q);
        sound = t.sound;
      }

turns_refusal : (r : Response) (k i : ℕ) (a : Answered) → (turns_of k i r a).refusal ≡ a.refusal
unfolding turn_of turns_of
turns_refusal r zero i a = refl
turns_refusal r (suc k) i a = turns_refusal r k (suc i) (turn_of r i a)

-- A response is refused by 3 or not at all.
module _ (d : Desk) (ps : Profiles) (r : Response) where
  fit : response_refusal r ≡ 0 → unfit r ≡ false
  unfolding response_refusal
  fit e = not_here 3 (unfit r) [] (λ q. omega arith) e

  -- RESPONSE: each of its replies is the newest of its PID, and fresh for every registered client.
  pub response_law : ((i : ℕ) → pid_at r i < 256) → Sound d → response_refusal r ≡ 0
      → After
      (response_of d ps r).desk
      (registered d)
      (λ c p. fresh d c p || (registered d c && arrives r p))
      (wait_of d)
      (λ p. newest_of r p (stored d p))
  response_law bytes s e = rw (response_taken d ps r (fit e)) (turns_after r bytes r.count 0 (unanswered 0 d ps) s)

  -- A refused call changes nothing.
  pub response_unchanged : (response_refusal r ≡ 0 → ⊥) → ((response_of d ps r).desk ≡ d) × ((response_of d ps r).profiles ≡ ps)
  unfolding response_of
  response_unchanged h = (rw (ne_eqb (response_refusal r) 0 h), rw (ne_eqb (response_refusal r) 0 h))

  pub response_refusal_law : (response_of d ps r).refusal ≡ response_refusal r
  unfolding response_of
  response_refusal_law = cases _ (eqb (response_refusal r) 0)
      (λ e. rw e (turns_refusal r r.count 0 (unanswered 0 d ps) ∙ sym (eqb-true (response_refusal r) 0 e)))
      (λ e. rw e)

-- The newest reply of a PID: the response's, if one comes by it, whatever was stored; else what was stored.
module _ (r : Response) (p : ℕ) where
  pub newest_missing : (k i : ℕ) (old : Reply) → arrives_in k i r p ≡ false → newest_in k i r p old ≡ old
  unfolding arrives_in newest_in
  newest_missing zero i old e = refl
  newest_missing (suc k) i old e = cases _ (eqb (pid_at r i) p)
      (λ f. never true refl (rw f at e))
      (λ f. rw f (newest_missing k (suc i) old (rw f at e)))

  pub newest_any : (k i : ℕ) (old other : Reply) → arrives_in k i r p ≡ true → newest_in k i r p old ≡ newest_in k i r p other
  unfolding arrives_in newest_in
  newest_any zero i old other e = never false e refl
  newest_any (suc k) i old other e = cases _ (eqb (pid_at r i) p)
      (λ f. rw f)
      (λ f. rw f (newest_any k (suc i) old other (rw f at e)))
