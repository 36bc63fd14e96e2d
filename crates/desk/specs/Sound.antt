-- What holds of every desk that calls have made, and what is told of a desk after a call. A client is spoken of by its number.
use Rattle.std.specs.Prelude.{Option, Bool, true, ◌≡◌, ℕ, ◌<◌, ◌≤◌, length}
use Rattle.base.specs.Times.{times}
use Rattle.clients.specs.Rules.{places, numbers_of}
use Rattle.clients.specs.declared.Wait.{Wait}
use Rattle.reply.specs.declared.Reply.{Reply}
use Rattle.desk.specs.Rules.{registered, client_of, fresh, wait_of, stored}
use Rattle.desk.specs.declared.Desk.{Desk}

-- The arrays are whole, the numbers in use are distinct, and none is above how many were given.
pub record Sound (d : Desk) : Type 0 where
  pub eight : length d.clients ≡ places
  pub whole : length d.store ≡ 256
  pub marks : (c : ℕ) → registered d c ≡ true → length (client_of d c).fresh ≡ 256
  pub once : (c : ℕ) → (c ≡ 0 → ⊥) → times c (numbers_of d.clients) ≤ 1
  pub below : (c : ℕ) → d.given < c → times c (numbers_of d.clients) ≡ 0

-- What a desk is after a call: who is registered, what is fresh for whom, who waits for what since when, and the newest replies.
pub record After (e : Desk) (who : ℕ → Bool) (new : ℕ → ℕ → Bool) (wait : ℕ → Option Wait) (reply : ℕ → Reply) : Type 0 where
  pub is_registered : (c : ℕ) → registered e c ≡ who c
  pub is_fresh : (c p : ℕ) → fresh e c p ≡ new c p
  pub waits : (c : ℕ) → wait_of e c ≡ wait c
  pub newest : (p : ℕ) → stored e p ≡ reply p
  pub sound : Sound e
