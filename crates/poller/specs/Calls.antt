-- Control messages, the connection, and a round's begin: document 01, "Rounds (poller)". That no round
-- is open is the box's test (12).
use Rattle.std.specs.Prelude.{ℕ, Bool, not, ◌&&◌, ◌==◌}
use Rattle.base.specs.Choice.{pick}
use Rattle.config.specs.declared.Settings.{Settings}
use Rattle.config.specs.declared.PidPriority.TheVariants.{Fast, Slow}
use Rattle.control.specs.declared.DongleMessage.{DongleMessage}
use Rattle.control.specs.declared.DongleMessage.TheVariants.{SetPidPriority, RemovePid}
use Rattle.link.specs.Rules.{is_no, connect_of as linkUp, fail_of as linkDown, reconnect_of as linkCheck}
use Rattle.link.specs.declared.Session.{Session}
use Rattle.pid_list.specs.Rules.{set_of, remove_of}
use Rattle.pid_list.specs.declared.PidList.{PidList}
use Rattle.plan.specs.Steps.{plan_of}
use Rattle.poller.specs.State.{opened_round, with_lists, with_link, with_round, with_plan, with_settings}
use Rattle.poller.specs.declared.Phase.TheVariants.{First, Multi, Over}
use Rattle.poller.specs.declared.Poller.{Poller}
use Rattle.poller.specs.declared.Lists.{Lists}
use Rattle.poller.specs.declared.Linked.{Linked}
use Rattle.poller.specs.declared.Checked.{Checked}

-- Setting a PID removes it from both lists and appends it to its own.
unfoldable pub applied_of : PidList → PidList → DongleMessage → Lists
applied_of fast slow (SetPidPriority p Fast) = record { fast = set_of fast p; slow = remove_of slow p }
applied_of fast slow (SetPidPriority p Slow) = record { fast = remove_of fast p; slow = set_of slow p }
applied_of fast slow (RemovePid p) = record { fast = remove_of fast p; slow = remove_of slow p }

abbrev pub apply_of : Poller → DongleMessage → Poller
apply_of p m = with_lists p (applied_of p.fast p.slow m).fast (applied_of p.fast p.slow m).slow

unfoldable pub connect_of : Poller → Session → Linked
connect_of p s = record { poller = with_link p (linkUp p.link s).link; said = (linkUp p.link s).said }

unfoldable pub fail_of : Poller → Linked
fail_of p = record { poller = with_link p (linkDown p.link).link; said = (linkDown p.link).said }

unfoldable pub reconnect_of : Poller → ℕ → Checked
reconnect_of p t = record { poller = with_link p (linkCheck p.link t).link; yes = (linkCheck p.link t).yes }

-- A multi round: switched on, and the state not "no".
abbrev pub multi_allowed : Bool → Bool → Bool
multi_allowed switch denied = switch && not denied

-- A list without a PID.
abbrev pub none_in : PidList → Bool
none_in l = l.len == 0

-- What a round begins with: nothing without a connection; else its groups, or a single round's fast query. It keeps its settings
-- and whether its fast list is empty (document 02, A2).
unfoldable pub begin_of : Poller → Settings → Poller
begin_of p s =
    pick p.link.connected
    (pick (multi_allowed s.multi (is_no p.link.features.multi))
    (with_round (with_plan (with_settings p s) (plan_of p.fast p.slow p.counts p.link.known s.maxpids)) (opened_round Multi (none_in p.fast)))
    (with_round (with_settings p s) (opened_round First (none_in p.fast))))
    (with_round (with_settings p s) (opened_round Over (none_in p.fast)))
