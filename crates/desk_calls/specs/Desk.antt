-- What the desk's functions say, as the box's definitions have it.
use Rattle.std.specs.Prelude.{◌≡◌, ℕ, ◌+◌}
use Rattle.std.proofs.Math.Path.{ap}
use Rattle.std.proofs.Common.{◌∙◌}
use Rattle.base.specs.Refusal.{first_of}
use Rattle.control_line.specs.Rows.{line_of}
use Rattle.control_line.specs.declared.places.Ends.{Ends}
use Rattle.config.specs.declared.Profiles.{Profiles}
use Rattle.delivery.specs.Evaluation.{evaluated_of}
use Rattle.delivery.specs.Laws.{response_refusal_law}
use Rattle.delivery.specs.Rules.{response_refusal, response_of}
use Rattle.delivery.specs.Storing.{with_revs}
use Rattle.delivery.specs.declared.evaluation.Evaluated.{Evaluated}
use Rattle.desk.specs.Core.{desk_of}
use Rattle.desk.specs.Rules.{register_refusal, register_of, entered}
use Rattle.desk.specs.declared.Desk.{Desk}
use Rattle.desk.specs.declared.rest.Core.{Core as DeskCore}
use Rattle.obd2.specs.Call.{Register, Respond}
use Rattle.manager.specs.Rows.{manager_of}
use Rattle.manager.specs.declared.rows.Core.{Core as ManagerCore}
use Rattle.obd2.specs.Core.{Lent, box_of, answered_of, accepts, delivers, reports}
use Rattle.obd2.specs.Done.{Managing, manager_by}
use Rattle.obd2.specs.History.{accepting}
use Rattle.obd2.specs.Refusals.{manager_rows}
use Rattle.obd2.specs.State.{delivering}
use Rattle.obd2.specs.Answer.{Answered}
use Rattle.obd2.specs.declared.Said.TheVariants.{Done, Client}
use Rattle.obd2.specs.declared.State.{State}
use Rattle.obd2.specs.declared.rest.Core.{Core}
use Rattle.obd2.specs.declared.rest.Told.{Told}
use Rattle.poller.specs.Core.{poller_of}
use Rattle.report.specs.Summary.{report_in}
use Rattle.report.specs.declared.summary.Summary.{Summary}
use Rattle.reply.specs.declared.Response.{Response}

-- What the desk refuses by is what the call's own rows give.
pub register_told : (s : State) (n : ℕ) → n ≡ register_refusal s.desk → n ≡ first_of (manager_rows s Register)
unfolding manager_rows register_refusal
register_told s n e = e

pub response_told : (s : State) (r : Response) (n : ℕ) → n ≡ (response_of s.desk s.profiles r).refusal → n ≡ first_of (manager_rows s (Respond r))
unfolding manager_rows response_refusal
response_told s r n e = e ∙ response_refusal_law s.desk s.profiles r

-- A client that is not refused: its place, and its number.
module _ (d : Desk) (e : register_refusal d ≡ 0) where
  registered_desk : (register_of d).desk ≡ entered d
  unfolding register_of
  registered_desk = rw e

  registered_given : (register_of d).desk.given ≡ d.given + 1
  unfolding register_of entered
  registered_given = rw e

-- A call that is taken: the desk after it, and the manager's part.
module _ (x y : Lent) (k : Core) (t : ℕ) (m : ManagerCore) (l : Ends) (u : Summary) (a : Told) where
  abbrev s : State
  s = box_of x k

  abbrev left : DeskCore → Profiles → Core
  left d profiles = record { desk = d; manager = m; poller = k.poller; line = l; profiles = profiles; settings = k.settings; time = k.time }

  abbrev taken : Managing → Answered
  taken d =
      accepting t
      (record {
        state = record { desk = d.desk; manager = manager_of y.table m; poller = poller_of y.polling k.poller; line = line_of y.slots l; profiles = d.profiles; settings = k.settings; time = k.time };
        said = d.said;
        details = delivering d.values d.notices (report_in y.pids y.rates u);
      })

  -- A client that was registered.
  pub registered : (d : DeskCore) → register_refusal s.desk ≡ 0
      → desk_of y.replies y.marks d ≡ (register_of s.desk).desk
      → a ≡ accepts (left d k.profiles) t (Client d.given) (reports u)
      → answered_of y a ≡ taken (manager_by s Register)
  unfolding manager_by
  registered d e f h = rw (h, f ∙ registered_desk s.desk e, ap (λ (z : Desk). z.given) f ∙ registered_given s.desk e)

  -- A response: what was evaluated, and the desk with its replies stored.
  pub responded : (r : Response) (e : Evaluated) → e ≡ evaluated_of (response_of s.desk s.profiles r)
      → desk_of y.replies y.marks (with_revs k.desk e.revs) ≡ (response_of s.desk s.profiles r).desk
      → a ≡ accepts (left (with_revs k.desk e.revs) e.profiles) t Done (delivers e.values e.notices u)
      → answered_of y a ≡ taken (manager_by s (Respond r))
  unfolding manager_by
  responded r e f g h =
      rw (h, g, ap (λ (z : Evaluated). z.profiles) f, ap (λ (z : Evaluated). z.values) f, ap (λ (z : Evaluated). z.notices) f)
