-- Each definition of `Rules`, case by case.
use Rattle.std.specs.Prelude.{true, false, Some, ◌≡◌, ℕ}
use Rattle.base.specs.Choice.{cases}
use Rattle.link.specs.Rules.{no_ranges, with_attempt, with_ranges, connect_of, fail_of, rested_of, reconnect_of}
use Rattle.link.specs.declared.Link.{Link}
use Rattle.link.specs.declared.Session.{Session}
use Rattle.link.specs.declared.Connecting.TheVariants.{Connected, Failed, Already}

module _ (l : Link) where
  pub connect_already : (s : Session) → l.connected ≡ true → connect_of l s ≡ record { link = l; said = Already }
  unfolding connect_of
  connect_already s e = rw e

  pub connect_made : (s : Session) → l.connected ≡ false
      → connect_of l s ≡ record { link = record { connected = true; features = s.features; ranges = s.ranges; known = s.known; attempt = l.attempt }; said = Connected }
  unfolding connect_of
  connect_made s e = rw e

  pub fail_already : l.connected ≡ true → fail_of l ≡ record { link = l; said = Already }
  unfolding fail_of
  fail_already e = rw e

  pub fail_made : l.connected ≡ false → fail_of l ≡ record { link = with_ranges l false no_ranges; said = Failed }
  unfolding fail_of
  fail_made e = rw e

  pub reconnect_connected : (t : ℕ) → l.connected ≡ true → reconnect_of l t ≡ record { link = l; yes = false }
  unfolding reconnect_of
  reconnect_connected t e = rw e

  pub reconnect_yes : (t : ℕ) → l.connected ≡ false → rested_of l.attempt t ≡ true
      → reconnect_of l t ≡ record { link = with_attempt l (Some t); yes = true }
  unfolding reconnect_of
  reconnect_yes t e f = rw (e, f)

  pub reconnect_wait : (t : ℕ) → l.connected ≡ false → rested_of l.attempt t ≡ false → reconnect_of l t ≡ record { link = l; yes = false }
  unfolding reconnect_of
  reconnect_wait t e f = rw (e, f)

  -- A check makes no connection and ends none.
  pub reconnect_connection : (t : ℕ) → (reconnect_of l t).link.connected ≡ l.connected
  reconnect_connection t = cases _ l.connected
      (λ e. rw (reconnect_connected t e))
      (λ e. cases _ (rested_of l.attempt t) (λ f. rw (reconnect_yes t e f)) (λ f. rw (reconnect_wait t e f)))
