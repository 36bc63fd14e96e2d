-- Document 02, A2: a connected single round in Ratio mode that begins with an empty fast list passes the slow test. What the test
-- goes by in every other round is document 01's.
use Rattle.std.specs.Prelude.{false, true, ◌≡◌}
use Rattle.config.specs.declared.Settings.{Settings}
use Rattle.link.specs.Rules.{is_no}
use Rattle.poller.specs.Calls.{multi_allowed}
use Rattle.poller.specs.declared.Poller.{Poller}

pub record OnlySlow (p : Poller) (s : Settings) : Type 0 where
  pub up : p.link.connected ≡ true
  pub single : multi_allowed s.multi (is_no p.link.features.multi) ≡ false
  pub ratio : s.mode ≡ 0 → ⊥
  pub none : p.fast.len ≡ 0
