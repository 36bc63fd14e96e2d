-- A manager's call behind its own refusals: the room on the line, and what it does.
use Rattle.std.specs.Prelude.{◌≡◌, ℕ, true, false, [], ◌∷◌, ◌≢◌}
use Rattle.std.proofs.Math.Path.{refl, sym}
use Rattle.std.proofs.Common.{◌∙◌}
use Rattle.base.specs.Choice.{cases}
use Rattle.base.specs.Refusal.{first_of}
use Rattle.control_line.specs.Rows.{line_of}
use Rattle.control_line.specs.declared.places.Ends.{Ends}
use Rattle.desk.specs.Core.{desk_of}
use Rattle.manager.specs.Rows.{manager_of}
use Rattle.manager.specs.declared.rows.Core.{Core as ManagerCore}
use Rattle.obd2.specs.Accepted.{manager_numbered}
use Rattle.obd2.specs.Answers.{Answers, answers, settled_here, settled_next, settled_among, settled_none, settled_past}
use Rattle.obd2.specs.Call.{ManagerCall, manager}
use Rattle.obd2.specs.Core.{Lent, box_of, answered_of, refusing}
use Rattle.obd2.specs.Done.{Managing, manager_by, managing, manages, done_of}
use Rattle.obd2.specs.History.{refused, accepting, settled, in_time}
use Rattle.obd2.specs.Refusals.{exceeds, crowded, manager_rows, rows_of, row_refusal}
use Rattle.obd2.specs.State.{managed, delivering}
use Rattle.obd2.specs.Answer.{Answered}
use Rattle.obd2.specs.declared.State.{State}
use Rattle.obd2.specs.declared.rest.Core.{Core}
use Rattle.obd2.specs.declared.rest.Told.{Told}
use Rattle.refusal.specs.Number.{number_of}
use Rattle.refusal.specs.declared.Refusal.{Refusal}
use Rattle.report.specs.Summary.{none_in}
use Rattle.manager_calls.specs.Send.{Sent, send_of}

unfoldable pub settle_of : State → ℕ → Managing → Answered
settle_of s t r = settled (first_of ((15, crowded s (managing s t r)) ∷ [])) s (accepting t (manages s t r))

-- As the program tests it: x is what the manager's part made of the box.
module _ (s : State) (t : ℕ) (r : Managing) (x : Sent) (e : x ≡ send_of s.manager s.line (record { profiles = r.profiles; settings = s.settings; now = t }) r.event) where
  told : x.refused ≡ crowded s (managing s t r)
  unfolding send_of crowded
  told = rw e (cases _ (exceeds s.line.count (managing s t r).outbox.count) (λ f. rw f) (λ f. rw f))

  pub sent_refused : {a : Answered} → x.refused ≡ true → a ≡ refused s 15 → a ≡ settle_of s t r
  unfolding settle_of
  sent_refused h f = settled_here s _ 15 [] (sym told ∙ h) refl f

  -- The box with what the call changed.
  abbrev changed : State
  changed = record { desk = r.desk; manager = x.manager; poller = s.poller; line = x.line; profiles = r.profiles; settings = s.settings; time = s.time }

  changed_is : crowded s (managing s t r) ≡ false
      → accepting t (record { state = changed; said = r.said; details = delivering r.values r.notices x.report }) ≡ accepting t (manages s t r)
  unfolding send_of crowded managed
  changed_is h = rw (e, h)

  pub sent_done : {a : Answered} → x.refused ≡ false → a ≡ accepting t (record { state = changed; said = r.said; details = delivering r.values r.notices x.report }) → a ≡ settle_of s t r
  unfolding settle_of
  sent_done h f = let z = sym told ∙ h in settled_next s _ 15 [] z (settled_none s _ (f ∙ changed_is z))

-- A call whose own rows give n: refused by it, or settled.
module _ (s : State) (t : ℕ) (c : ManagerCall) (n : ℕ) (e : n ≡ first_of (manager_rows s c)) {a : Answered} where
  pub own_refused : (n ≢ 0) → a ≡ refused s n → Answers s (manager t c) a
  unfolding in_time row_refusal rows_of
  own_refused h f = answers (settled_among s _ n (manager_rows s c) _ e h f)

  pub own_settled : n ≡ 0 → a ≡ settle_of s t (manager_by s c) → Answers s (manager t c) a
  unfolding in_time row_refusal rows_of done_of settle_of
  own_settled h f = answers (settled_past s _ n (manager_rows s c) _ e (manager_numbered s c) h f)

-- The rest of the box with another manager's and line's.
abbrev pub handling : Core → ManagerCore → Ends → Core
handling k m l = record { desk = k.desk; manager = m; poller = k.poller; line = l; profiles = k.profiles; settings = k.settings; time = k.time }

-- Refused by n: the manager and the line that came back are those that they were.
pub handed_back : (x y : Lent) (k : Core) (m : ManagerCore) (l : Ends) (n : Refusal) (r : Told)
    → desk_of y.replies y.marks k.desk ≡ desk_of x.replies x.marks k.desk
    → y.polling ≡ x.polling
    → manager_of y.table m ≡ manager_of x.table k.manager
    → line_of y.slots l ≡ line_of x.slots k.line
    → r ≡ refusing (handling k m l) n
    → answered_of y r ≡ refused (box_of x k) (number_of n)
handed_back x y k m l n r d p e g f = rw (f, none_in y.pids y.rates, d, p, e, g)
