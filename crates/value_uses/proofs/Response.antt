-- What a response answers and leaves, by its replies' values: place by place.
use Rattle.std.proofs.Math.Bool.{false}
use Rattle.std.specs.Prelude.{List, ◌≡◌, length, get_or, set}
use Rattle.std.proofs.Math.Path.{refl}
use Rattle.std.proofs.Common.{◌∙◌, get_or-set_same, get_or-set_other}
use Prim.Native.Nat.{ℕ, zero, suc, ◌+◌, ◌<◌}
use native.Mathlib.Omega.{arith}
use Rattle.std.proofs.Math.ListN.{length-set}
use Rattle.agreement.specs.Claim.{switched}
use Rattle.agreement.proofs.ReadOff.{turns_switched}
use Rattle.delivery.specs.Rules.{deliver_of, pid_at, value_at, turn_of, turns_of}
use Rattle.delivery.specs.declared.Answered.{Answered}
use Rattle.reply.specs.declared.Response.{Response}
use Rattle.triggers.specs.Rules.{notice_of}
use Rattle.value_uses.specs.Claim.{revs_in}

module _ (r : Response) where
  pub turns_revs : (k i : ℕ) (a : Answered) → (turns_of k i r a).desk.revs ≡ revs_in k i r a.desk.revs
  unfolding turns_of turn_of deliver_of revs_in
  turns_revs zero i a = refl
  turns_revs (suc k) i a = turns_revs k (suc i) (turn_of r i a)

  -- A list in which each turn sets its own place.
  module _ {A : Type 0} (z : A) (list_of : Answered → List A) (new : ℕ → Answered → A)
      (sets : (i : ℕ) (a : Answered) → list_of (turn_of r i a) ≡ set (list_of a) i (new i a)) where
    -- What the places before have is not touched again.
    earlier : (k i j : ℕ) (a : Answered) → j < i → get_or (list_of (turns_of k i r a)) j z ≡ get_or (list_of a) j z
    unfolding turns_of
    earlier zero i j a h = refl
    earlier (suc k) i j a h =
        earlier k (suc i) j (turn_of r i a) (omega arith) ∙ rw (sets i a) (get_or-set_other (list_of a) i j (new i a) z (omega arith))

    -- The place m behind i, after k turns: what its own turn set, after those before it.
    at_place : (m k i : ℕ) (a : Answered) → m < k → i + m < length (list_of a)
        → get_or (list_of (turns_of k i r a)) (i + m) z ≡ new (i + m) (turns_of m i r a)
    unfolding turns_of
    at_place m zero i a h n = absurd (omega arith)
    at_place zero (suc k) i a h n =
        let e : i + 0 ≡ i = omega arith in
        rw e (earlier k (suc i) i (turn_of r i a) (omega arith) ∙ rw (sets i a) (get_or-set_same (list_of a) i (new i a) z (omega arith)))
    at_place (suc m) (suc k) i a h n =
        let e : i + suc m ≡ suc i + m = omega arith in
        rw e (at_place m k (suc i) (turn_of r i a) (omega arith) (rw (sets i a, length-set (list_of a) i (new i a)) (omega arith)))

  module _ (a : Answered) (k m : ℕ) (h : m < k) where
    pub turns_value : m < length a.values → get_or (turns_of k 0 r a).values m 0 ≡ value_at r m
    unfolding turn_of
    turns_value n =
        let e : 0 + m ≡ m = omega arith in
        rw e at (at_place 0 (λ (x : Answered). x.values) (λ i x. value_at r i) (λ i x. refl) m k 0 a h (rw e n))

    pub turns_notice : m < length a.notices → get_or (turns_of k 0 r a).notices m false ≡ notice_of (pid_at r m) (value_at r m) (switched m 0 r a.profiles)
    unfolding turn_of
    turns_notice n =
        let e : 0 + m ≡ m = omega arith in
        rw (← turns_switched m 0 r a) (rw e at (at_place false (λ (x : Answered). x.notices) (λ i x. notice_of (pid_at r i) (value_at r i) x.profiles) (λ i x. refl) m k 0 a h (rw e n)))
