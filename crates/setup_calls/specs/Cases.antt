-- The start, as the program tests its refusals: what the proof of the function cites.
use Rattle.std.specs.Prelude.{◌≡◌, ℕ, Bool, true, false, ◌||◌, Ok, [], ◌∷◌}
use Rattle.std.proofs.Math.Path.{ap}
use Rattle.std.proofs.Common.{sym, ◌∙◌, arith, le-ltb}
use Rattle.base.specs.Refusal.{Rows, first_of, first_here, first_next, first_none}
use Rattle.config.specs.Blank.{no_profiles}
use Rattle.config.specs.Defaults.{default_settings}
use Rattle.config.specs.declared.Profiles.{Profiles}
use Rattle.config.specs.declared.Settings.{Settings}
use Rattle.control.specs.Outbox.{messages}
use Rattle.control_line.specs.Ring.{empty_line, push_all_of}
use Rattle.control_line.specs.Rows.{line_of}
use Rattle.control_line.specs.declared.ControlLine.{ControlLine}
use Rattle.control_line.specs.declared.places.Ends.{Ends}
use Rattle.desk.specs.Core.{desk_of}
use Rattle.desk.specs.Rules.{start_desk}
use Rattle.desk.specs.declared.rest.Core.{Core as DeskCore}
use Rattle.manager.specs.Calls.{start_of as startManager}
use Rattle.manager.specs.Rows.{answer_of}
use Rattle.manager.specs.declared.Answer.{Answer as Managed}
use Rattle.manager.specs.declared.rows.Handled.{Handled}
use Rattle.poller.specs.Core.{poller_of}
use Rattle.poller.specs.State.{start_of as startPoller}
use Rattle.poller.specs.declared.rest.Core.{Core as PollerCore}
use Rattle.report.specs.Summary.{none_in}
use Rattle.profile_check.specs.Check.{bad_profiles, unknown_mode}
use Rattle.obd2.specs.Core.{Lent, box_of, answered_of, no_notes, refusing, refused_is}
use Rattle.obd2.specs.History.{start_of}
use Rattle.obd2.specs.Answers.{settled_refused, settled_done}
use Rattle.refusal.specs.Number.{number_of, never_zero}
use Rattle.refusal.specs.declared.Refusal.{Refusal}
use Rattle.obd2.specs.Refusals.{bad_time, start_refusal}
use Rattle.obd2.specs.State.{started}
use Rattle.obd2.specs.declared.Said.TheVariants.{Started}
use Rattle.obd2.specs.declared.rest.Core.{Core}
use Rattle.obd2.specs.declared.rest.Notes.{Notes}
use Rattle.obd2.specs.declared.rest.Told.{Told}

module _ (t : ℕ) (st : Settings) (ps : Profiles) where
  -- A start's rows, as the time's test has them: no time is before 0.
  abbrev rows : Rows
  rows = (1, bad_time 0 t) ∷ (2, unknown_mode st.mode || bad_profiles ps) ∷ []

  rows_are : start_refusal t st ps ≡ first_of rows
  unfolding start_refusal
  rows_are = rw (le-ltb t 0 (omega arith))

  pub late_start : bad_time 0 t ≡ true → 1 ≡ start_refusal t st ps
  late_start e = sym (rows_are ∙ first_here 1 _ _ e)

  module _ (e : bad_time 0 t ≡ false) where
    behind : start_refusal t st ps ≡ first_of ((2, unknown_mode st.mode || bad_profiles ps) ∷ [])
    behind = rows_are ∙ first_next 1 _ _ e

    pub unknown_start : (unknown_mode st.mode || bad_profiles ps) ≡ true → 2 ≡ start_refusal t st ps
    unknown_start f = sym (behind ∙ first_here 2 _ _ f)

    pub good_start : (unknown_mode st.mode || bad_profiles ps) ≡ false → 0 ≡ start_refusal t st ps
    good_start f = sym (behind ∙ first_next 2 _ _ f ∙ first_none)

  -- A start, refused and not.
  pub refused_start : (x : Lent) (k : Core) (r : Refusal) (a : Told) (d : Settings) (n : Profiles) → number_of r ≡ start_refusal t st ps
      → box_of x k ≡ started 0 d n → d ≡ default_settings → n ≡ no_profiles → a ≡ refusing k r
      → answered_of x a ≡ start_of t st ps
  unfolding start_of
  refused_start x k r a d n e f g h i = settled_refused _ _ (start_refusal t st ps) (sym e) (never_zero r) (rw (refused_is x k a r i, f, g, h))

  pub accepted_start : (x : Lent) (k : Core) (n : Notes) → 0 ≡ start_refusal t st ps → box_of x k ≡ started t st ps → n ≡ no_notes
      → answered_of x (record { core = k; answer = Ok Started; notes = n }) ≡ start_of t st ps
  unfolding start_of
  accepted_start x k n z e f = settled_done _ _ (start_refusal t st ps) (sym z) (rw (e, f, none_in x.pids x.rates))

-- The box that a start makes, from what its parts are.
module _ (t : ℕ) (st : Settings) (ps : Profiles) (x : Lent) (d : DeskCore) (m : Handled) (p : PollerCore) (l : Ends) (empty : ControlLine) where
  pub started_is : desk_of x.replies x.marks d ≡ start_desk
      → answer_of x.table x.pids x.rates m ≡ startManager (record { profiles = ps; settings = st; now = t })
      → empty ≡ empty_line
      → line_of x.slots l ≡ push_all_of empty (messages m.outbox)
      → poller_of x.polling p ≡ startPoller t
      → box_of x (record { desk = d; manager = m.core; poller = p; line = l; profiles = ps; settings = st; time = t }) ≡ started t st ps
  unfolding started answer_of
  started_is e f g h k = rw (e, h, g, k, ap (λ (a : Managed). a.manager) f, ap (λ (a : Managed). a.outbox) f)
