-- Each definition of `Rules`, case by case: what the proofs of the functions and of the laws cite.
use Rattle.std.specs.Prelude.{is_some}
use Rattle.std.specs.Prelude.{Some, ◌≡◌, ℕ, ◌-◌, true, false, List, length, ◌≢◌, nat_lt}
use borrow.Author.Tests.{ne_eqb}
use Rattle.base.specs.Refusal.{first_of}
use Rattle.clients.specs.Rules.{taken_of, idled_of}
use Rattle.clients.specs.declared.Wait.{Wait}
use Rattle.desk.specs.Rules.{registered, client_of, fresh, wait_of, stored, put_client}
use Rattle.desk.specs.declared.Desk.{Desk}
use Rattle.reply.specs.Rules.{size_of, filled_of}
use Rattle.waits.specs.Rules.{awaited, awaited_reply, collect_refusal, not_collected, collected_of, collect_of, collect_area, give_up_refusal, gave_up, give_up_of}

-- The number of a collect's refusal.
module _ (d : Desk) (c n : ℕ) where
  pub collect_stranger : registered d c ≡ false → collect_refusal d c n ≡ 8
  unfolding collect_refusal first_of
  collect_stranger e = rw e

  pub collect_idle : registered d c ≡ true → is_some (wait_of d c) ≡ false → collect_refusal d c n ≡ 10
  unfolding collect_refusal first_of
  collect_idle e f = rw (e, f)

  pub collect_early : registered d c ≡ true → is_some (wait_of d c) ≡ true → fresh d c (awaited d c) ≡ false → collect_refusal d c n ≡ 11
  unfolding collect_refusal first_of
  collect_early e f g = rw (e, f, g)

  pub collect_short : registered d c ≡ true → is_some (wait_of d c) ≡ true → fresh d c (awaited d c) ≡ true → nat_lt n (size_of (awaited_reply d c)) ≡ true
      → collect_refusal d c n ≡ 14
  unfolding collect_refusal first_of
  collect_short e f g h = rw (e, f, g, h)

  pub collect_none : registered d c ≡ true → is_some (wait_of d c) ≡ true → fresh d c (awaited d c) ≡ true → nat_lt n (size_of (awaited_reply d c)) ≡ false
      → collect_refusal d c n ≡ 0
  unfolding collect_refusal first_of
  collect_none e f g h = rw (e, f, g, h)

-- A collect that is refused with a number, and one that is not: its answer, and the lent area.
module _ (d : Desk) (t c : ℕ) (area : List ℕ) where
  pub collect_refused : (k : ℕ) → (k ≢ 0) → collect_refusal d c (length area) ≡ k
      → (not_collected k d ≡ collect_of d t c (length area)) × (area ≡ collect_area d c area)
  unfolding collect_of collect_area
  collect_refused k h e = (rw (e, ne_eqb k 0 h), rw (e, ne_eqb k 0 h))

  pub collect_done : collect_refusal d c (length area) ≡ 0
      → (collected_of d t c ≡ collect_of d t c (length area)) × (filled_of (awaited_reply d c) area ≡ collect_area d c area)
  unfolding collect_of collect_area
  collect_done e = (rw e, rw e)

module _ (d : Desk) (c : ℕ) where
  pub give_up_stranger : registered d c ≡ false → give_up_of d c ≡ gave_up 8 d
  unfolding give_up_of give_up_refusal first_of
  give_up_stranger e = rw e

  pub give_up_idle : registered d c ≡ true → is_some (wait_of d c) ≡ false → give_up_of d c ≡ gave_up 10 d
  unfolding give_up_of give_up_refusal first_of
  give_up_idle e f = rw (e, f)

  pub give_up_done : registered d c ≡ true → is_some (wait_of d c) ≡ true → give_up_of d c ≡ gave_up 0 (put_client d c (idled_of (client_of d c)))
  unfolding give_up_of give_up_refusal first_of
  give_up_done e f = rw (e, f)

-- What a collect answers, from the wait w that was read.
pub collected_is : (d e : Desk) (t c : ℕ) (w : Wait) (n : ℕ) → wait_of d c ≡ Some w → n ≡ t - w.since
    → e ≡ put_client d c (idled_of (taken_of w.pid (client_of d c)))
    → record { desk = e; refusal = 0; pid = w.pid; wait = n; lines = (stored d w.pid).lines; lengths = (stored d w.pid).lengths } ≡ collected_of d t c
unfolding collected_of
collected_is d e t c w n f g h = rw (f, g, h)
