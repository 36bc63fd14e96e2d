-- A response's PIDs one by one, as a loop goes through them.
use Rattle.std.specs.Prelude.{false, ◌≡◌, ℕ, zero, suc, ◌+◌, ◌≤◌}
use Rattle.std.proofs.Math.Path.{refl}
use native.Mathlib.Omega.{arith}
use Rattle.std.proofs.Common.{add-one}
use Rattle.config.specs.declared.Profiles.{Profiles}
use Rattle.desk.specs.declared.Desk.{Desk}
use Rattle.reply.specs.declared.Response.{Response}
use Rattle.delivery.specs.Rules.{listed_of, unfit, turn_of, turns_of, unanswered, response_of}
use Rattle.delivery.specs.Cases.{listed_all, fit_count, response_taken}
use Rattle.delivery.specs.declared.Answered.{Answered}

-- THE ANSWER so far, once the first i PIDs had their turn.
unfoldable pub answer_after : ℕ → Desk → Profiles → Response → Answered
answer_after i d ps r = turns_of i 0 r (unanswered 0 d ps)

turns_more : (r : Response) (k i : ℕ) (a : Answered) → turns_of (suc k) i r a ≡ turn_of r (i + k) (turns_of k i r a)
unfolding turns_of
turns_more r zero i a = let e : i + 0 ≡ i = omega arith in rw e
turns_more r (suc k) i a = let e : i + suc k ≡ suc i + k = omega arith in rw e (turns_more r k (suc i) (turn_of r i a))

module _ (d : Desk) (ps : Profiles) (r : Response) where
  pub answer_start : answer_after 0 d ps r ≡ unanswered 0 d ps
  unfolding answer_after turns_of
  answer_start = refl

  pub answer_next : (i : ℕ) → answer_after (i + 1) d ps r ≡ turn_of r i (answer_after i d ps r)
  unfolding answer_after
  answer_next i = let e : 0 + i ≡ i = omega arith in rw (add-one i) (rw e at (turns_more r i 0 (unanswered 0 d ps)))

  -- A response that is taken has its answer once all of its PIDs had their turn.
  pub answer_whole : (i : ℕ) → unfit r ≡ false → i ≤ listed_of r.count → listed_of r.count ≤ i → answer_after i d ps r ≡ response_of d ps r
  unfolding answer_after
  answer_whole i e h k =
      let l = listed_all r.count (fit_count r e) in
      let n : i ≡ r.count = omega arith in
      rw (n, response_taken d ps r e)
