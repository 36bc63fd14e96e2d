-- What registering and leaving do: who is registered, what is fresh for whom, who waits for what, and the newest replies; every desk
-- that they made is sound. A client is spoken of by its number.
use Rattle.std.specs.Prelude.{true, false, ◌&&◌, not, [], ◌∷◌, ◌≡◌, ℕ, zero, suc, ◌+◌, ◌<◌, ◌≤◌, ltb, leb, eqb, length, set, replicate}
use Rattle.std.proofs.Math.Bool.{and-false}
use Rattle.std.proofs.Math.Path.{refl, ap, sym}
use Rattle.std.proofs.Common.{◌∙◌, arith}
use Rattle.std.proofs.Math.ListN.{length-set}
use Rattle.std.proofs.Math.Seq.{set-get_or}
use borrow.Author.Tests.{ltb-true, ltb-false, leb-false, eqb-true, eqb-false, lt-ltb, le-ltb, eq-eqb, ne_eqb}
use Rattle.base.specs.Both.{never}
use Rattle.base.specs.Choice.{pick, one, cases}
use Rattle.base.specs.Refusal.{not_here, not_next}
use Rattle.base.specs.Times.{times, times_set}
use Rattle.clients.specs.Rules.{places, idle, newcomer, place_of, registered_of, numbers_of, fresh_in}
use Rattle.clients.specs.Laws.{find_at, found_number, find_put_same, find_put_new, find_put_other, place_put_same, place_put_other, numbers_set, numbers_at, numbers_length, absent_place, place_absent, place_present, registered_place, registered_some, newcomer_number, newcomer_wait, newcomer_fresh, newcomer_long}
use Rattle.clients.specs.declared.Client.{Client}
use Rattle.desk.specs.Rules.{start_desk, with_given, registered, client_of, fresh, wait_of, stored, put_client, most_numbers, full, register_refusal, entered, register_of, leave_of}
use Rattle.desk.specs.Sound.{Sound, After}
use Rattle.desk.specs.Cases.{leave_done, leave_nobody}
use Rattle.desk.specs.declared.Desk.{Desk}

-- A number that is registered stands at a place, once.
module _ (d : Desk) (s : Sound d) where
  registered_in : (c : ℕ) → registered d c ≡ true → place_of d.clients c < length d.clients
  unfolding registered
  registered_in c r = rw s.eight (registered_place d.clients c r)

  pub client_number : (c : ℕ) → registered d c ≡ true → (client_of d c).number ≡ c
  unfolding client_of
  client_number c r = found_number d.clients c (registered_in c r)

  -- A number above those given is nobody's.
  pub not_given : (c : ℕ) → d.given < c → registered d c ≡ false
  unfolding registered registered_of
  not_given c h =
      let a = absent_place d.clients c (s.below c h) in
      rw (le-ltb (place_of d.clients c) places (rw s.eight at a)) (and-false (not (eqb c 0)))

-- Registered is to stand at a place.
registered_times : (d : Desk) → length d.clients ≡ places → (c : ℕ) → registered d c ≡ (not (eqb c 0) && ltb 0 (times c (numbers_of d.clients)))
unfolding registered registered_of
registered_times d h c = cases _ (ltb (place_of d.clients c) places)
    (λ f. rw (f, lt-ltb 0 (times c (numbers_of d.clients)) (place_present d.clients c (rw h (ltb-true (place_of d.clients c) places f)))))
    (λ f. let z = place_absent d.clients c (rw h (ltb-false (place_of d.clients c) places f)) in rw (f, z))

-- Nothing is fresh for a number that is not registered, and it waits for nothing.
module _ (d : Desk) (c : ℕ) (r : registered d c ≡ false) where
  stranger_fresh : (p : ℕ) → fresh d c p ≡ false
  unfolding fresh
  stranger_fresh p = rw r

  stranger_waits : wait_of d c ≡ idle
  unfolding wait_of
  stranger_waits = rw r

-- What is fresh and waited for goes by who is registered, and by the client.
module _ (d e : Desk) (c : ℕ) (r : registered e c ≡ registered d c) (k : client_of e c ≡ client_of d c) where
  same_fresh : (p : ℕ) → fresh e c p ≡ fresh d c p
  unfolding fresh
  same_fresh p = rw (r, k)

  same_waits : wait_of e c ≡ wait_of d c
  unfolding wait_of
  same_waits = rw (r, k)

-- Another client in the place of c, with the number that it had.
module _ (d : Desk) (s : Sound d) (c : ℕ) (x : Client) (r : registered d c ≡ true) (n : x.number ≡ c) where
  put_numbers : numbers_of (put_client d c x).clients ≡ numbers_of d.clients
  unfolding put_client
  put_numbers =
      let i = place_of d.clients c in
      let a = numbers_at d.clients i ∙ ap (λ (y : Client). y.number) (find_at d.clients c) ∙ found_number d.clients c (registered_in d s c r) in
      numbers_set d.clients i x ∙ ap (set (numbers_of d.clients) i) (n ∙ sym a) ∙ set-get_or (numbers_of d.clients) i 0

  put_place : (e : ℕ) → place_of (put_client d c x).clients e ≡ place_of d.clients e
  unfolding put_client
  put_place e = cases _ (eqb e c)
      (λ f. rw (eqb-true e c f) (place_put_same c c x d.clients n))
      (λ f. let z = eqb-false e c f in place_put_other c e x d.clients z (λ g. z (sym g ∙ n)))

  pub put_registered : (e : ℕ) → registered (put_client d c x) e ≡ registered d e
  unfolding registered registered_of
  put_registered e = rw (put_place e)

  put_client_law : client_of (put_client d c x) c ≡ x
  unfolding client_of put_client
  put_client_law = find_put_same c c x d.clients (registered_in d s c r) n

  put_other : (e : ℕ) → (e ≡ c → ⊥) → client_of (put_client d c x) e ≡ client_of d e
  unfolding client_of put_client
  put_other e z = find_put_other c e x d.clients z (λ g. z (sym g ∙ n))

  put_fresh_same : (p : ℕ) → fresh (put_client d c x) c p ≡ fresh_in x p
  unfolding fresh
  put_fresh_same p = rw (put_registered c ∙ r, put_client_law)

  put_fresh : (e p : ℕ) → fresh (put_client d c x) e p ≡ pick (eqb e c) (fresh_in x p) (fresh d e p)
  put_fresh e p = cases _ (eqb e c)
      (λ f. rw (f, eqb-true e c f) (put_fresh_same p))
      (λ f. rw f (same_fresh d (put_client d c x) e (put_registered e) (put_other e (eqb-false e c f)) p))

  put_waits_same : wait_of (put_client d c x) c ≡ x.wait
  unfolding wait_of
  put_waits_same = rw (put_registered c ∙ r, put_client_law)

  put_waits : (e : ℕ) → wait_of (put_client d c x) e ≡ pick (eqb e c) x.wait (wait_of d e)
  put_waits e = cases _ (eqb e c)
      (λ f. rw (f, eqb-true e c f) put_waits_same)
      (λ f. rw f (same_waits d (put_client d c x) e (put_registered e) (put_other e (eqb-false e c f))))

  put_stored : (p : ℕ) → stored (put_client d c x) p ≡ stored d p
  unfolding stored put_client
  put_stored p = refl

  put_marks : length x.fresh ≡ 256 → (e : ℕ) → registered (put_client d c x) e ≡ true → length (client_of (put_client d c x) e).fresh ≡ 256
  put_marks l e g = cases _ (eqb e c)
      (λ f. rw (eqb-true e c f, put_client_law) l)
      (λ f. rw (put_other e (eqb-false e c f)) (s.marks e (sym (put_registered e) ∙ g)))

  put_sound : length x.fresh ≡ 256 → Sound (put_client d c x)
  unfolding put_client
  put_sound l =
      record {
        eight = simp length-set s.eight;
        whole = s.whole;
        marks = put_marks l;
        once = λ e z. rw put_numbers (s.once e z);
        below = λ e h. rw put_numbers (s.below e h);
      }

  -- The client itself is as it is put; everything else is as it was.
  pub put_after : length x.fresh ≡ 256
      → After (put_client d c x) (registered d) (λ e p. pick (eqb e c) (fresh_in x p) (fresh d e p)) (λ e. pick (eqb e c) x.wait (wait_of d e)) (stored d)
  put_after l = record { is_registered = put_registered; is_fresh = put_fresh; waits = put_waits; newest = put_stored; sound = put_sound l }

-- Any client in the place of c: one number goes, another comes.
module _ (d : Desk) (c : ℕ) (y : Client) (h : place_of d.clients c < length d.clients) where
  moved_times : (q : ℕ) → times q (numbers_of (put_client d c y).clients) + one (eqb c q) ≡ times q (numbers_of d.clients) + one (eqb y.number q)
  unfolding put_client
  moved_times q =
      let i = place_of d.clients c in
      let a = numbers_at d.clients i ∙ ap (λ (y : Client). y.number) (find_at d.clients c) ∙ found_number d.clients c h in
      let t = times_set q (numbers_of d.clients) i y.number (rw (numbers_length d.clients) h) in
      rw (numbers_set d.clients i y) (rw a at t)

  moved_other : (e : ℕ) → (e ≡ c → ⊥) → (y.number ≡ e → ⊥) → client_of (put_client d c y) e ≡ client_of d e
  unfolding client_of put_client
  moved_other e z w = find_put_other c e y d.clients z w

  moved_long : length (put_client d c y).clients ≡ length d.clients
  unfolding put_client
  moved_long = length-set d.clients (place_of d.clients c) y

-- 0 is nobody's number.
zero_stranger : (d : Desk) → registered d 0 ≡ false
unfolding registered registered_of
zero_stranger d = refl

-- A registered client that leaves.
module _ (d : Desk) (s : Sound d) (c : ℕ) (r : registered d c ≡ true) where
  abbrev left : Desk
  left = put_client d c (newcomer 0)

  left_eight : length left.clients ≡ places
  left_eight = moved_long d c (newcomer 0) (registered_in d s c r) ∙ s.eight

  some : c ≡ 0 → ⊥
  unfolding registered
  some = registered_some d.clients c r

  left_times : (q : ℕ) → (q ≡ 0 → ⊥) → times q (numbers_of left.clients) + one (eqb c q) ≡ times q (numbers_of d.clients)
  left_times q z =
      let t = moved_times d c (newcomer 0) (registered_in d s c r) q in
      let n = ap (λ (k : ℕ). eqb k q) (newcomer_number 0) ∙ ne_eqb 0 q (λ e. z (sym e)) in
      let u = rw n at t in
      omega arith

  left_registered : (e : ℕ) → registered left e ≡ (not (eqb c e) && registered d e)
  left_registered e = rw (registered_times left left_eight e, registered_times d s.eight e) (cases _ (eqb e 0)
      (λ f. rw f (sym (and-false (not (eqb c e)))))
      (λ f. rw f (cases _ (eqb c e)
      (λ g. let t = left_times e (eqb-false e 0 f) in
      let u = rw g at t in
      let o = s.once e (eqb-false e 0 f) in
      rw (g, le-ltb 0 (times e (numbers_of left.clients)) (omega arith)))
      (λ g. let t = left_times e (eqb-false e 0 f) in
      let u : times e (numbers_of left.clients) ≡ times e (numbers_of d.clients) = (let v = rw g at t in omega arith) in
      rw (g, u)))))

  left_client : (e : ℕ) → eqb c e ≡ false → (e ≡ 0 → ⊥) → client_of left e ≡ client_of d e
  left_client e g z =
      moved_other d c (newcomer 0) (registered_in d s c r) e (λ q. eqb-false c e g (sym q)) (λ q. z (sym q ∙ newcomer_number 0))

  left_same : (e : ℕ) → eqb c e ≡ false → registered left e ≡ registered d e
  left_same e g = left_registered e ∙ rw g

  left_gone : (e : ℕ) → eqb c e ≡ true → registered left e ≡ false
  left_gone e g = left_registered e ∙ rw g

  left_fresh : (e p : ℕ) → fresh left e p ≡ (not (eqb c e) && fresh d e p)
  left_fresh e p = cases _ (eqb c e)
      (λ g. rw g (stranger_fresh left e (left_gone e g) p))
      (λ g. rw g (cases _ (eqb e 0)
      (λ f. rw (eqb-true e 0 f) (stranger_fresh left 0 (zero_stranger left) p ∙ sym (stranger_fresh d 0 (zero_stranger d) p)))
      (λ f. same_fresh d left e (left_same e g) (left_client e g (eqb-false e 0 f)) p)))

  left_waits : (e : ℕ) → wait_of left e ≡ pick (eqb c e) idle (wait_of d e)
  left_waits e = cases _ (eqb c e)
      (λ g. rw g (stranger_waits left e (left_gone e g)))
      (λ g. rw g (cases _ (eqb e 0)
      (λ f. rw (eqb-true e 0 f) (stranger_waits left 0 (zero_stranger left) ∙ sym (stranger_waits d 0 (zero_stranger d))))
      (λ f. same_waits d left e (left_same e g) (left_client e g (eqb-false e 0 f)))))

  left_marks : (e : ℕ) → registered left e ≡ true → length (client_of left e).fresh ≡ 256
  left_marks e h = cases _ (eqb c e)
      (λ g. never (registered left e) h (left_gone e g))
      (λ g. cases _ (eqb e 0)
      (λ f. never (registered left 0) (rw (eqb-true e 0 f) at h) (zero_stranger left))
      (λ f. rw (left_client e g (eqb-false e 0 f)) (s.marks e (sym (left_same e g) ∙ h))))

  left_stored : (p : ℕ) → stored left p ≡ stored d p
  unfolding stored put_client
  left_stored p = refl

  left_sound : Sound left
  unfolding put_client
  left_sound =
      record {
        eight = left_eight;
        whole = s.whole;
        marks = left_marks;
        once = λ e z. omega (arith, left_times e z, s.once e z);
        below = λ e h. omega (arith, left_times e (λ q. omega arith), s.below e h);
      }

-- A number that is not registered, and leaves.
module _ (d : Desk) (c : ℕ) (r : registered d c ≡ false) where
  missed : (e : ℕ) → eqb c e ≡ true → registered d e ≡ false
  missed e g = rw (← eqb-true c e g) r

  missed_registered : (e : ℕ) → registered d e ≡ (not (eqb c e) && registered d e)
  missed_registered e = cases _ (eqb c e) (λ g. rw g (missed e g)) (λ g. rw g)

  missed_fresh : (e p : ℕ) → fresh d e p ≡ (not (eqb c e) && fresh d e p)
  missed_fresh e p = cases _ (eqb c e) (λ g. rw g (stranger_fresh d e (missed e g) p)) (λ g. rw g)

  missed_waits : (e : ℕ) → wait_of d e ≡ pick (eqb c e) idle (wait_of d e)
  missed_waits e = cases _ (eqb c e) (λ g. rw g (stranger_waits d e (missed e g))) (λ g. rw g)

-- LEAVE: the client is out; nothing else changes. A number that is not registered takes nobody out.
pub leave_law : (d : Desk) (c : ℕ) → Sound d
    → After (leave_of d c) (λ e. not (eqb c e) && registered d e) (λ e p. not (eqb c e) && fresh d e p) (λ e. pick (eqb c e) idle (wait_of d e)) (stored d)
leave_law d c s = cases _ (registered d c)
    (λ r. rw (leave_done d c r)
    record { is_registered = left_registered d s c r; is_fresh = left_fresh d s c r; waits = left_waits d s c r; newest = left_stored d s c r; sound = left_sound d s c r })
    (λ r. rw (leave_nobody d c r)
    record {
      is_registered = missed_registered d c r;
      is_fresh = missed_fresh d c r;
      waits = missed_waits d c r;
      newest = λ p. refl;
      sound = s;
    })

-- A client that registers, where a place is free.
module _ (d : Desk) (s : Sound d) (h : place_of d.clients 0 < places) where
  abbrev number : ℕ
  number = d.given + 1

  abbrev moved : Desk
  moved = put_client d 0 (newcomer number)

  abbrev joined : Desk
  joined = with_given moved number

  free : place_of d.clients 0 < length d.clients
  free = rw s.eight h

  joined_eight : length joined.clients ≡ places
  joined_eight = moved_long d 0 (newcomer number) free ∙ s.eight

  joined_times : (q : ℕ) → (q ≡ 0 → ⊥) → times q (numbers_of joined.clients) ≡ times q (numbers_of d.clients) + one (eqb number q)
  joined_times q z =
      let t = moved_times d 0 (newcomer number) free q in
      let n = ap (λ (k : ℕ). eqb k q) (newcomer_number number) in
      let u = rw (n, ne_eqb 0 q (λ e. z (sym e))) at t in
      omega arith

  joined_registered : (e : ℕ) → registered joined e ≡ pick (eqb number e) true (registered d e)
  joined_registered e = rw (registered_times joined joined_eight e, registered_times d s.eight e) (cases _ (eqb e 0)
      (λ f. rw (f, ne_eqb number e (λ q. omega (arith, eqb-true e 0 f))))
      (λ f. let t = joined_times e (eqb-false e 0 f) in rw f (cases _ (eqb number e)
      (λ g. let u = rw g at t in rw (g, lt-ltb 0 (times e (numbers_of joined.clients)) (omega arith)))
      (λ g. let u : times e (numbers_of joined.clients) ≡ times e (numbers_of d.clients) = (let v = rw g at t in omega arith) in rw (g, u)))))

  joined_new : client_of joined number ≡ newcomer number
  unfolding client_of put_client
  joined_new =
      find_put_new 0 number (newcomer number) d.clients free (newcomer_number number) (absent_place d.clients number (s.below number (omega arith)))

  joined_old : (e : ℕ) → eqb number e ≡ false → (e ≡ 0 → ⊥) → client_of joined e ≡ client_of d e
  unfolding client_of put_client
  joined_old e g z = find_put_other 0 e (newcomer number) d.clients z (λ q. eqb-false number e g (sym (newcomer_number number) ∙ q))

  joined_same : (e : ℕ) → eqb number e ≡ false → registered joined e ≡ registered d e
  joined_same e g = joined_registered e ∙ rw g

  joined_in : registered joined number ≡ true
  joined_in = joined_registered number ∙ rw (eq-eqb number number refl)

  new_fresh : (p : ℕ) → fresh joined number p ≡ false
  unfolding fresh
  new_fresh p = rw (joined_in, joined_new) (newcomer_fresh number p)

  new_waits : wait_of joined number ≡ idle
  unfolding wait_of
  new_waits = rw (joined_in, joined_new) (newcomer_wait number)

  joined_fresh : (e p : ℕ) → fresh joined e p ≡ pick (eqb number e) false (fresh d e p)
  joined_fresh e p = cases _ (eqb number e)
      (λ g. rw (g, ← eqb-true number e g) (new_fresh p))
      (λ g. rw g (cases _ (eqb e 0)
      (λ f. rw (eqb-true e 0 f) (stranger_fresh joined 0 (zero_stranger joined) p ∙ sym (stranger_fresh d 0 (zero_stranger d) p)))
      (λ f. same_fresh d joined e (joined_same e g) (joined_old e g (eqb-false e 0 f)) p)))

  joined_waits : (e : ℕ) → wait_of joined e ≡ pick (eqb number e) idle (wait_of d e)
  joined_waits e = cases _ (eqb number e)
      (λ g. rw (g, ← eqb-true number e g) new_waits)
      (λ g. rw g (cases _ (eqb e 0)
      (λ f. rw (eqb-true e 0 f) (stranger_waits joined 0 (zero_stranger joined) ∙ sym (stranger_waits d 0 (zero_stranger d))))
      (λ f. same_waits d joined e (joined_same e g) (joined_old e g (eqb-false e 0 f)))))

  joined_marks : (e : ℕ) → registered joined e ≡ true → length (client_of joined e).fresh ≡ 256
  joined_marks e k = cases _ (eqb number e)
      (λ g. rw (← eqb-true number e g, joined_new) (newcomer_long number))
      (λ g. cases _ (eqb e 0)
      (λ f. never (registered joined 0) (rw (eqb-true e 0 f) at k) (zero_stranger joined))
      (λ f. rw (joined_old e g (eqb-false e 0 f)) (s.marks e (sym (joined_same e g) ∙ k))))

  joined_stored : (p : ℕ) → stored joined p ≡ stored d p
  unfolding stored put_client
  joined_stored p = refl

  joined_once : (e : ℕ) → (e ≡ 0 → ⊥) → times e (numbers_of joined.clients) ≤ 1
  joined_once e z = let t = joined_times e z in cases _ (eqb number e)
      (λ g. let b = s.below e (omega (arith, eqb-true number e g)) in let u = rw g at t in omega arith)
      (λ g. let b = s.once e z in let u = rw g at t in omega arith)

  joined_below : (e : ℕ) → number < e → times e (numbers_of joined.clients) ≡ 0
  joined_below e k =
      let t = joined_times e (λ q. omega arith) in
      let u = rw (ne_eqb number e (λ q. omega arith)) at t in
      omega (arith, s.below e (omega arith))

  joined_sound : Sound joined
  unfolding put_client
  joined_sound = record { eight = joined_eight; whole = s.whole; marks = joined_marks; once = joined_once; below = joined_below }

-- A call that is not refused has a free place.
register_free : (d : Desk) → register_refusal d ≡ 0 → place_of d.clients 0 < places
unfolding register_refusal
register_free d e =
    leb-false places (place_of d.clients 0)
    (not_here 7 (full d) [] (λ q. omega arith) (not_next 6 (leb most_numbers d.given) ((7, full d) ∷ []) (λ q. omega arith) e))

-- REGISTER: the next number, which nobody had, is registered; nothing is fresh for it, and it waits for nothing.
pub register_law : (d : Desk) → Sound d → register_refusal d ≡ 0 → let n = d.given + 1 in
    After (register_of d).desk (λ e. pick (eqb n e) true (registered d e)) (λ e p. pick (eqb n e) false (fresh d e p)) (λ e. pick (eqb n e) idle (wait_of d e)) (stored d)
unfolding register_of entered
register_law d s e =
    let h = register_free d e in
    rw e
    record { is_registered = joined_registered d s h; is_fresh = joined_fresh d s h; waits = joined_waits d s h; newest = joined_stored d s h; sound = joined_sound d s h }

pub register_number : (d : Desk) → register_refusal d ≡ 0 → ((register_of d).number ≡ d.given + 1) × ((register_of d).desk.given ≡ d.given + 1)
unfolding register_of entered
register_number d e = (rw e, rw e)

-- A refused call changes nothing.
pub register_refused : (d : Desk) → (register_refusal d ≡ 0 → ⊥) → (register_of d).desk ≡ d
unfolding register_of
register_refused d h = rw (ne_eqb (register_refusal d) 0 h)

pub register_refusal_law : (d : Desk) → (register_of d).refusal ≡ register_refusal d
unfolding register_of
register_refusal_law d = cases _ (eqb (register_refusal d) 0)
    (λ e. rw (e, eqb-true (register_refusal d) 0 e))
    (λ e. rw e)

-- The desk before any call.
free_times : (n q : ℕ) → (q ≡ 0 → ⊥) → times q (numbers_of (replicate n (newcomer 0))) ≡ 0
unfolding times numbers_of newcomer
free_times zero q z = refl
free_times (suc n) q z = rw (ne_eqb 0 q (λ e. z (sym e))) (omega (arith, free_times n q z))

start_times : (q : ℕ) → (q ≡ 0 → ⊥) → times q (numbers_of start_desk.clients) ≡ 0
unfolding start_desk
start_times q z = free_times places q z

start_eight : length start_desk.clients ≡ places
unfolding start_desk
start_eight = refl

start_whole : length start_desk.store ≡ 256
unfolding start_desk
start_whole = refl

start_registered : (c : ℕ) → registered start_desk c ≡ false
start_registered c = registered_times start_desk start_eight c ∙ cases _ (eqb c 0)
    (λ f. rw f)
    (λ f. rw (f, start_times c (eqb-false c 0 f)))

start_sound : Sound start_desk
start_sound =
    record {
      eight = start_eight;
      whole = start_whole;
      marks = λ c r. never (registered start_desk c) r (start_registered c);
      once = λ c z. omega (arith, start_times c z);
      below = λ c h. start_times c (λ q. omega arith);
    }

-- START: nobody is registered.
pub start_law : After start_desk (λ c. false) (λ c p. false) (λ c. idle) (stored start_desk)
start_law =
    record {
      is_registered = start_registered;
      is_fresh = λ c p. stranger_fresh start_desk c (start_registered c) p;
      waits = λ c. stranger_waits start_desk c (start_registered c);
      newest = λ p. refl;
      sound = start_sound;
    }
