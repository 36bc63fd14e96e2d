-- Each definition of the calls, case by case: what the functions' proofs and the laws cite.
use Rattle.std.specs.Prelude.{◌≡◌, ℕ, true, false}
use Rattle.std.proofs.Math.Path.{refl}
use Rattle.config.specs.declared.Settings.{Settings}
use Rattle.link.specs.Rules.{is_no, connect_of as linkUp, fail_of as linkDown, reconnect_of as linkCheck}
use Rattle.link.specs.declared.Session.{Session}
use Rattle.plan.specs.Steps.{plan_of}
use Rattle.poller.specs.Calls.{connect_of, fail_of, reconnect_of, multi_allowed, none_in, begin_of}
use Rattle.poller.specs.State.{opened_round, with_link, with_round, with_plan, with_settings}
use Rattle.poller.specs.declared.Phase.TheVariants.{First, Multi, Over}
use Rattle.poller.specs.declared.Poller.{Poller}

module _ (p : Poller) where
  pub connect_done : (s : Session) → connect_of p s ≡ record { poller = with_link p (linkUp p.link s).link; said = (linkUp p.link s).said }
  unfolding connect_of
  connect_done s = refl

  pub fail_done : fail_of p ≡ record { poller = with_link p (linkDown p.link).link; said = (linkDown p.link).said }
  unfolding fail_of
  fail_done = refl

  pub reconnect_done : (t : ℕ) → reconnect_of p t ≡ record { poller = with_link p (linkCheck p.link t).link; yes = (linkCheck p.link t).yes }
  unfolding reconnect_of
  reconnect_done t = refl

  module _ (s : Settings) where
    pub begin_over : p.link.connected ≡ false → begin_of p s ≡ with_round (with_settings p s) (opened_round Over (none_in p.fast))
    unfolding begin_of
    begin_over f = rw f

    pub begin_multi : p.link.connected ≡ true → multi_allowed s.multi (is_no p.link.features.multi) ≡ true
        → begin_of p s ≡ with_round (with_plan (with_settings p s) (plan_of p.fast p.slow p.counts p.link.known s.maxpids)) (opened_round Multi (none_in p.fast))
    unfolding begin_of
    begin_multi f g = rw (f, g)

    pub begin_single : p.link.connected ≡ true → multi_allowed s.multi (is_no p.link.features.multi) ≡ false
        → begin_of p s ≡ with_round (with_settings p s) (opened_round First (none_in p.fast))
    unfolding begin_of
    begin_single f g = rw (f, g)
