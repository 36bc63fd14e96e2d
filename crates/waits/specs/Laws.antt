-- What collect and give up do to the desk, and which reading a collect hands out.
use Rattle.std.specs.Prelude.{is_some}
use Rattle.std.specs.Prelude.{Option, ◌≡◌, ℕ, Bool, true, false, not, ◌&&◌, List, [], ◌∷◌, ◌++◌, length, drop, ◌==◌, ◌≢◌, nat_eq, nat_lt}
use Rattle.std.proofs.Math.Bool.{and-true}
use Rattle.std.proofs.Math.Path.{refl, sym}
use Rattle.std.proofs.Common.{ap, ◌∙◌, arith}
use borrow.Author.Tests.{eqb-true, ne_eqb, not-false, ltb-false}
use Rattle.base.specs.Choice.{pick, cases}
use Rattle.base.specs.Refusal.{not_here, not_next}
use Rattle.clients.specs.Rules.{idle, fresh_in, taken_of, idled_of}
use Rattle.clients.specs.Laws.{taken_number, taken_long, taken_fresh, idled_number, idled_wait, idled_fresh}
use Rattle.clients.specs.declared.Wait.{Wait}
use Rattle.clients.specs.declared.Client.{Client}
use Rattle.desk.specs.Rules.{registered, client_of, fresh, wait_of, put_client}
use Rattle.desk.specs.Laws.{client_number, put_after}
use Rattle.desk.specs.Sound.{Sound}
use Rattle.desk.specs.declared.Desk.{Desk}
use Rattle.reply.specs.Laws.{filled_long}
use Rattle.reply.specs.Rules.{size_of, joined_of}
use Rattle.waits.specs.Rules.{awaited, awaited_reply, collect_refusal, collected_of, collect_of, collect_area, give_up_refusal, give_up_of}
use Rattle.waits.specs.After.{collects, AfterWait, Found, Collects}
use Rattle.waits.specs.Cases.{collect_refused, collect_done}

kept_fresh : (f g : Bool) → f ≡ (f && not (g && false))
kept_fresh true true = refl
kept_fresh true false = refl
kept_fresh false g = refl

kept_wait : (b : Bool) (v w : Option Wait) → w ≡ pick (b && false) v w
kept_wait true v w = refl
kept_wait false v w = refl

-- A refused call.
module _ (d : Desk) (s : Sound d) (c : ℕ) where
  refused_after : AfterWait d c false (λ p. false) d
  refused_after =
      record {
        is_registered = λ k. refl;
        is_fresh = λ k p. kept_fresh (fresh d k p) (k == c);
        waits = λ k. kept_wait (k == c) idle (wait_of d k);
        newest = λ p. refl;
        sound = s;
      }

  -- A wait that ends, with the client's marks being those of x.
  module _ (r : registered d c ≡ true) (x : Client) (n : x.number ≡ (client_of d c).number) (l : length x.fresh ≡ length (client_of d c).fresh) where
    idled_marks : (q : ℕ) → fresh_in (idled_of x) q ≡ fresh_in x q
    unfolding fresh_in
    idled_marks q = rw (idled_fresh x)

    ended_fresh : (hands : ℕ → Bool) → ((q : ℕ) → fresh_in x q ≡ (fresh_in (client_of d c) q && not (hands q)))
        → (k q : ℕ) → pick (k == c) (fresh_in (idled_of x) q) (fresh d k q) ≡ (fresh d k q && not (k == c && hands q))
    unfolding fresh
    ended_fresh hands m k q = cases _ (k == c)
        (λ f. rw (f, eqb-true k c f, r) (idled_marks q ∙ m q))
        (λ f. rw f (sym (and-true (registered d k && fresh_in (client_of d k) q))))

    ended_wait : (k : ℕ) → pick (k == c) (idled_of x).wait (wait_of d k) ≡ pick (k == c && true) idle (wait_of d k)
    ended_wait k = rw (idled_wait x, and-true (k == c))

    ended_after : (hands : ℕ → Bool) → ((q : ℕ) → fresh_in x q ≡ (fresh_in (client_of d c) q && not (hands q))) → AfterWait d c true hands (put_client d c (idled_of x))
    ended_after hands m =
        let a = put_after d s c (idled_of x) r (idled_number x ∙ n ∙ client_number d s c r) (ap length (idled_fresh x) ∙ l ∙ s.marks c r) in
        record {
          is_registered = a.is_registered;
          is_fresh = λ k q. a.is_fresh k q ∙ ended_fresh hands m k q;
          waits = λ k. a.waits k ∙ ended_wait k;
          newest = a.newest;
          sound = a.sound;
        }

module _ (d : Desk) (c n : ℕ) where
  pub collect_found : collect_refusal d c n ≡ 0 → Found d c n
  unfolding collect_refusal
  collect_found e =
      let stranger = not (registered d c) in
      let still = not (is_some (wait_of d c)) in
      let early = not (fresh d c (awaited d c)) in
      let short = nat_lt n (size_of (awaited_reply d c)) in
      let a = not_next 8 stranger ((10, still) ∷ (11, early) ∷ (14, short) ∷ []) (λ q. omega arith) e in
      let b = not_next 10 still ((11, early) ∷ (14, short) ∷ []) (λ q. omega arith) a in
      let f = not_next 11 early ((14, short) ∷ []) (λ q. omega arith) b in
      record {
        known = not-false (registered d c) (not_here 8 stranger ((10, still) ∷ (11, early) ∷ (14, short) ∷ []) (λ q. omega arith) e);
        waiting = not-false (is_some (wait_of d c)) (not_here 10 still ((11, early) ∷ (14, short) ∷ []) (λ q. omega arith) a);
        was_fresh = not-false (fresh d c (awaited d c)) (not_here 11 early ((14, short) ∷ []) (λ q. omega arith) b);
        fits = ltb-false n (size_of (awaited_reply d c)) (not_here 14 short [] (λ q. omega arith) f);
      }

-- COLLECT: the reading that was waited for is handed out, and is fresh no longer for this client; its wait is over.
module _ (d : Desk) (t c n : ℕ) where
  taken_marks : (q : ℕ) → fresh_in (taken_of (awaited d c) (client_of d c)) q ≡ (fresh_in (client_of d c) q && not (awaited d c == q))
  taken_marks q = taken_fresh (client_of d c) (awaited d c) q

  collected_after : Sound d → registered d c ≡ true → AfterWait d c true (λ p. nat_eq (awaited d c) p) (collected_of d t c).desk
  unfolding collected_of
  collected_after s r =
      let x = client_of d c in
      let p = awaited d c in
      ended_after d s c r (taken_of p x) (taken_number p 0 x) (taken_long p 0 x) (λ q. nat_eq p q) taken_marks

  pub collect_law : Sound d → let a = collect_of d t c n in AfterWait d c (a.refusal == 0) (collects a) a.desk
  unfolding collect_of collected_of
  collect_law s = cases _ (collect_refusal d c n == 0)
      (λ e. rw e (collected_after s (collect_found d c n (eqb-true (collect_refusal d c n) 0 e)).known))
      (λ e. rw (e, e) (refused_after d s c))

  pub collect_refusal_law : (collect_of d t c n).refusal ≡ collect_refusal d c n
  unfolding collect_of collected_of
  collect_refusal_law = cases _ (collect_refusal d c n == 0)
      (λ e. rw (e, eqb-true (collect_refusal d c n) 0 e))
      (λ e. rw e)

  -- A refused call changes nothing.
  pub collect_unchanged : (collect_refusal d c n ≢ 0) → (collect_of d t c n).desk ≡ d
  unfolding collect_of
  collect_unchanged h = rw (ne_eqb (collect_refusal d c n) 0 h)

pub collect_hands : (d : Desk) (t c n : ℕ) → collect_refusal d c n ≡ 0 → Collects d t c (collect_of d t c n)
unfolding collect_of collected_of
collect_hands d t c n e = rw e record { pid_of_law = refl; wait_of_law = refl; lines_of = refl; lengths_of_law = refl }

-- The lent area: a refused collect leaves every byte, an accepted one fills the start with the reply, which fits.
module _ (d : Desk) (t c : ℕ) (area : List ℕ) where
  pub collect_area_law : collect_refusal d c (length area) ≡ 0
      → collect_area d c area ≡ joined_of (awaited_reply d c) ++ drop (size_of (awaited_reply d c)) area
  collect_area_law e =
      sym (collect_done d t c area e).1 ∙ filled_long (awaited_reply d c) area (collect_found d c (length area) e).fits

  pub collect_untouched : (collect_refusal d c (length area) ≢ 0) → collect_area d c area ≡ area
  collect_untouched h = sym (collect_refused d t c area (collect_refusal d c (length area)) h refl).1

-- GIVE UP: the wait is over; whatever is fresh stays so.
module _ (d : Desk) (c : ℕ) where
  pub give_up_known : give_up_refusal d c ≡ 0 → registered d c ≡ true
  unfolding give_up_refusal
  give_up_known e = not-false (registered d c) (not_here 8 (not (registered d c)) ((10, not (is_some (wait_of d c))) ∷ []) (λ q. omega arith) e)

  pub give_up_law : Sound d → let a = give_up_of d c in AfterWait d c (a.refusal == 0) (λ p. false) a.desk
  unfolding give_up_of
  give_up_law s = cases _ (give_up_refusal d c == 0)
      (λ e. rw e (ended_after d s c (give_up_known (eqb-true (give_up_refusal d c) 0 e)) (client_of d c) refl refl (λ p. false) (λ q. sym (and-true (fresh_in (client_of d c) q)))))
      (λ e. rw (e, e) (refused_after d s c))

  pub give_up_refusal_law : (give_up_of d c).refusal ≡ give_up_refusal d c
  unfolding give_up_of
  give_up_refusal_law = cases _ (give_up_refusal d c == 0)
      (λ e. rw (e, eqb-true (give_up_refusal d c) 0 e))
      (λ e. rw e)

  pub give_up_unchanged : (give_up_refusal d c ≢ 0) → (give_up_of d c).desk ≡ d
  unfolding give_up_of
  give_up_unchanged h = rw (ne_eqb (give_up_refusal d c) 0 h)
