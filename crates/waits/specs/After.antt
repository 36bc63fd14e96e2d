-- The desk after collect and give up, what an accepted collect found, and what it hands out.
use Rattle.std.specs.Prelude.{is_some}
use Rattle.clients.specs.Rules.{since_in}
use Rattle.std.specs.Prelude.{◌≡◌, ℕ, ◌-◌, ◌≤◌, Bool, true, not, ◌&&◌, ◌==◌}
use Rattle.base.specs.Choice.{pick}
use Rattle.clients.specs.Rules.{idle}
use Rattle.desk.specs.Rules.{registered, fresh, wait_of, stored}
use Rattle.desk.specs.Sound.{After}
use Rattle.desk.specs.declared.Desk.{Desk}
use Rattle.reply.specs.Rules.{size_of}
use Rattle.waits.specs.Rules.{awaited, awaited_reply}
use Rattle.waits.specs.declared.Collected.{Collected}

-- Whether a collect hands out a reading of the PID: it is accepted, and names Consumed of that PID.
abbrev pub collects : Collected → ℕ → Bool
collects a p = a.refusal == 0 && a.pid == p

-- The desk e after a call of client c: its wait is over if the call was accepted; what it is handed is fresh no longer.
abbrev pub AfterWait : Desk → ℕ → Bool → (ℕ → Bool) → Desk → Type 0
AfterWait d c accepted hands e =
    After e (registered d) (λ k p. fresh d k p && not (k == c && hands p)) (λ k. pick (k == c && accepted) idle (wait_of d k)) (stored d)

-- What an accepted collect found: a registered client that waits, and a reply that came and fits the lent area.
pub record Found (d : Desk) (c n : ℕ) : Type 0 where
  pub known : registered d c ≡ true
  pub waiting : is_some (wait_of d c) ≡ true
  pub was_fresh : fresh d c (awaited d c) ≡ true
  pub fits : size_of (awaited_reply d c) ≤ n

-- A reading that a collect hands out: of the PID that the client waits for, the newest reply, with the wait since the ask.
pub record Collects (d : Desk) (t c : ℕ) (a : Collected) : Type 0 where
  pub pid_of_law : a.pid ≡ awaited d c
  pub wait_of_law : a.wait ≡ t - since_in (wait_of d c)
  pub lines_of : a.lines ≡ (awaited_reply d c).lines
  pub lengths_of_law : a.lengths ≡ (awaited_reply d c).lengths
