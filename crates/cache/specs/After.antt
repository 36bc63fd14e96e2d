-- The desk after an ask, and what an ask hands out.
use Rattle.reply.specs.declared.Reply.{Reply}
use Rattle.std.specs.Prelude.{◌≡◌, ℕ, Option, true, not, ◌&&◌, List, ◌==◌}
use Rattle.base.specs.Choice.{pick}
use Rattle.desk.specs.Rules.{registered, fresh, wait_of, stored}
use Rattle.desk.specs.Sound.{After}
use Rattle.desk.specs.declared.Desk.{Desk}
use Rattle.cache.specs.Rules.{hands_out, handed_of, wait_after}
use Rattle.cache.specs.declared.Step.{Step}
use Rattle.cache.specs.declared.Step.TheVariants.{ToCache}
use Rattle.cache.specs.declared.Answer.{Answer}

-- The desk after an answer a to client c at time t, in terms of the desk before.
abbrev pub AfterAnswer : Desk → ℕ → ℕ → Answer → Desk → Type 0
AfterAnswer d t c a e =
    After e (registered d) (λ k p. fresh d k p && not (k == c && hands_out a p)) (λ k. pick (k == c) (wait_after t a (wait_of d k)) (wait_of d k)) (stored d)

-- A reading that is handed out: by an ask for that PID, of a fresh reply, the newest one.
pub record Handed (d : Desk) (c : ℕ) (rs : List (Option Reply)) (st : Step) (p : ℕ) : Type 0 where
  pub to_cache : st ≡ ToCache p
  pub was_fresh : fresh d c p ≡ true
  pub reply_of_law : handed_of d c rs st ≡ stored d p
