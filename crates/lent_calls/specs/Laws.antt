-- Refusal 2, "over 16 profiles", of a start and of a ProfilePidsChanged that is lent more, at a time that is taken.
use Rattle.std.specs.Prelude.{Bool, true, false, ◌||◌, ◌≡◌, ℕ, ◌<◌, ltb, length}
use mathlib.Core.List.{List, []}
use Rattle.std.proofs.Math.Path.{refl, sym}
use Rattle.config.specs.Blank.{no_profiles}
use Rattle.config.specs.Defaults.{default_settings}
use Rattle.config.specs.declared.Profile.{Profile}
use Rattle.config.specs.declared.Settings.{Settings}
use Rattle.dispatch.specs.Dispatch.{call_of}
use Rattle.obd2.specs.Answers.{settled_here, settled_next}
use Rattle.obd2.specs.History.{refused, step, start_of}
use Rattle.obd2.specs.Refusals.{latest, bad_time, manager_rows, rows_of, refusal_of, start_refusal}
use Rattle.obd2.specs.State.{started}
use Rattle.obd2.specs.declared.State.{State}
use Rattle.obd2.specs.declared.call.Brought.{Brought}
use Rattle.obd2.specs.declared.call.Call.TheVariants.{ProfilePidsChanged}
use Rattle.profile_check.specs.Check.{unknown_mode}
use Rattle.profile_list.specs.Copied.{copied_of}
use Rattle.profile_list.specs.Laws.{longer_refused}
use Rattle.lent_calls.specs.Bringing.{bringing}

either : (x y : Bool) → y ≡ true → (x || y) ≡ true
either true y e = refl
either false y e = e

module _ (ps : List Profile) (longer : 16 < length ps) where
  pub start_longer : (t : ℕ) (st : Settings) → ltb latest t ≡ false → start_of t st (copied_of ps) ≡ refused (started 0 default_settings no_profiles) 2
  unfolding start_of start_refusal
  start_longer t st e =
      let s = started 0 default_settings no_profiles in
      let f = either (unknown_mode st.mode) _ (longer_refused ps longer) in
      sym (settled_next s _ 1 _ e (settled_here s _ 2 [] f refl refl))

  pub changed_longer : (s : State) (t : ℕ) (b : Brought) (cmd area : List ℕ) → bad_time s.time t ≡ false
      → step s (call_of t ProfilePidsChanged (bringing b (copied_of ps)) cmd area) ≡ refused s 2
  unfolding step refusal_of rows_of manager_rows call_of
  changed_longer s t b cmd area e = sym (settled_next s _ 1 _ e (settled_here s _ 2 _ (longer_refused ps longer) refl refl))
