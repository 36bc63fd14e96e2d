-- What an accepted call's table of refusals tells: its time is one that the box takes, its messages have room, and
-- no round is open where none may be.
use Rattle.std.specs.Prelude.{◌≡◌, ℕ, ◌≤◌, Bool, true, false, [], ◌∷◌, nat_lt}
use Rattle.std.proofs.Math.Path.{refl}
use Rattle.std.proofs.Common.{sym, ◌∙◌, arith, ltb-false}
use Rattle.base.specs.Choice.{cases, false_true}
use Rattle.base.specs.Refusal.{Rows, first_of, not_here, not_next, first_past, none_among, numbered}
use Rattle.rounds.specs.declared.Outcome.{Outcome}
use Rattle.obd2.specs.Call.{Call, manager, round, ManagerCall, Register, Leave, Respond, Changed, Waiting, Consumed, Tick, Begin, Next, Result, time_of}
use Rattle.obd2.specs.Done.{manager_by, managing}
use Rattle.obd2.specs.Refusals.{latest, bad_time, crowded, round_open, result_due, manager_rows, round_rows, rows_of, row_refusal, refusal_of}
use Rattle.obd2.specs.declared.State.{State}

-- The rows behind the first, and the first, of a table of which none holds. A refusal's number is above 0.
pub rest : (n : ℕ) (b : Bool) (rs : Rows) → first_of ((n, b) ∷ rs) ≡ 0 → 1 ≤ n → first_of rs ≡ 0
rest n b rs e h = not_next n b rs (λ z. omega arith) e

pub top : (n : ℕ) (b : Bool) (rs : Rows) → first_of ((n, b) ∷ rs) ≡ 0 → 1 ≤ n → b ≡ false
top n b rs e h = not_here n b rs (λ z. omega arith) e

-- A time that is not refused.
good_time : (last t : ℕ) → bad_time last t ≡ false → (last ≤ t) × (t ≤ latest)
good_time last t e =
    cases _ (nat_lt t last)
    (λ a. false_true (let b = rw a at e in cc))
    (λ a. (ltb-false t last a, ltb-false latest t (rw a at e)))

module _ (s : State) where
  pub manager_numbered : (c : ManagerCall) → numbered (manager_rows s c) ≡ true
  unfolding manager_rows
  manager_numbered Register = refl
  manager_numbered (Leave c) = refl
  manager_numbered (Respond r) = refl
  manager_numbered (Changed ps) = refl
  manager_numbered (Waiting p) = refl
  manager_numbered (Consumed p w) = refl
  manager_numbered Tick = refl

  module _ (c : Call) (e : refusal_of s c ≡ 0) where
    -- Refusal 1 stands first in every table.
    pub accepted_time : (s.time ≤ time_of c) × (time_of c ≤ latest)
    unfolding refusal_of
    accepted_time = good_time s.time (time_of c) (top 1 _ (rows_of s c) e (omega arith))

    pub accepted_rows : row_refusal s c ≡ 0
    unfolding refusal_of row_refusal
    accepted_rows = rest 1 _ (rows_of s c) e (omega arith)

  -- A manager's call: its own rows, and the room.
  module _ (t : ℕ) (c : ManagerCall) (e : refusal_of s (manager t c) ≡ 0) where
    pub manager_free : first_of (manager_rows s c) ≡ 0
    unfolding row_refusal rows_of
    manager_free = none_among (manager_rows s c) _ (manager_numbered c) (accepted_rows (manager t c) e)

    pub manager_room : crowded s (managing s t (manager_by s c)) ≡ false
    unfolding row_refusal rows_of
    manager_room =
        let m = crowded s (managing s t (manager_by s c)) in
        top 15 m [] (sym (first_past (manager_rows s c) ((15, m) ∷ []) (manager_numbered c) manager_free) ∙ accepted_rows (manager t c) e) (omega arith)

  module _ (t : ℕ) where
    pub begin_closed : refusal_of s (round t Begin) ≡ 0 → round_open s ≡ false
    unfolding row_refusal rows_of round_rows
    begin_closed e = top 12 _ _ (accepted_rows (round t Begin) e) (omega arith)

    pub next_open : refusal_of s (round t Next) ≡ 0 → (round_open s ≡ true) × (result_due s ≡ false)
    unfolding row_refusal rows_of round_rows
    next_open e =
        let b = top 13 _ _ (accepted_rows (round t Next) e) (omega arith) in
        cases _ (round_open s)
        (λ a. (a, rw a at b))
        (λ a. false_true (sym (rw a at b)))

    pub result_due_law : (o : Outcome) → refusal_of s (round t (Result o)) ≡ 0 → result_due s ≡ true
    unfolding row_refusal rows_of round_rows
    result_due_law o e =
        let b = top 13 _ _ (accepted_rows (round t (Result o)) e) (omega arith) in
        cases _ (result_due s)
        (λ a. a)
        (λ a. false_true (sym (rw a at b)))
