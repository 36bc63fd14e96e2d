-- A pass over the table as rows of numbers: the same pass, with the wishes beside it, and which rows it leaves as they are.
use Rattle.std.specs.Prelude.{Option, Bool, true, ◌&&◌, List, [], ◌≡◌, refl, ℕ, ◌+◌, ◌<◌, ◌≤◌, eqb, get_or, set, length}
use Rattle.std.proofs.Common.{sym, ◌∙◌, arith, eqb-true}
use Rattle.std.specs.Option.{is_none}
use Rattle.base.specs.Both.{both_left, both_right}
use Rattle.config.specs.declared.PidPriority.{PidPriority}
use Rattle.config.specs.declared.Settings.{Settings}
use Rattle.control.specs.Outbox.{send_all}
use Rattle.control.specs.Told.{told_of}
use Rattle.control.specs.declared.outbox.Outbox.{Outbox}
use Rattle.pid_table.specs.Entry.{nobody, speed, registered_of, demoted_of, removed_of, cleared_of}
use Rattle.pid_table.specs.Rows.{info_of, table_of, tracked_in, pinned_in, count_in, table_at, table_set, table_length}
use Rattle.pid_table.specs.declared.PidInfo.{PidInfo}
use Rattle.passes.specs.Wanted.{wish_for}
use Rattle.passes.specs.Rests.{unwanted_rests, untracked_stays, untracked_undemoted, uncounted_rests}
use Rattle.passes.specs.Sweep.{entry_after, sweep_from, sweep_turn, sweep_rest, sweep_end}
use Rattle.passes.specs.declared.Ledger.{Ledger}
use Rattle.passes.specs.declared.Pass.{Pass}
use Rattle.passes.specs.declared.Pass.TheVariants.{Register, Demote, Remove, Clear}
use Rattle.passes.specs.declared.Terms.{Terms}

-- The table that the lent rows are, with an outbox.
unfoldable pub ledger_of : List (List ℕ) → Outbox → Ledger
ledger_of rows o = record { table = table_of rows; outbox = o }

-- What a pass makes of an entry whose PID is wanted so.
unfoldable pub entry_by : Pass → Settings → ℕ → Option PidPriority → PidInfo → PidInfo
entry_by Register s now w i = registered_of w now i
entry_by Demote s now w i = demoted_of s.demotion s.removal now i
entry_by Remove s now w i = removed_of s.removal now i
entry_by Clear s now w i = cleared_of i

pub entry_by_law : (a : Pass) (t : Terms) (p : ℕ) (i : PidInfo) → entry_by a t.settings t.now (wish_for a t.profiles p) i ≡ entry_after a t p i
unfolding entry_by wish_for entry_after
entry_by_law Register t p i = refl
entry_by_law Demote t p i = refl
entry_by_law Remove t p i = refl
entry_by_law Clear t p i = refl

-- The number of a row that a pass looks at first. Registering leaves alone what is not pinned and not wanted; demoting and
-- removing, what is not tracked; clearing, a count of 0.
unfoldable pub column_of : Pass → ℕ
column_of Register = 2
column_of Demote = 0
column_of Remove = 0
column_of Clear = 3

below_8 : (a : Pass) → column_of a < 8
unfolding column_of
below_8 Register = omega arith
below_8 Demote = omega arith
below_8 Remove = omega arith
below_8 Clear = omega arith

pub column_near : (a : Pass) (column : ℕ) → column ≡ column_of a → column < 8
column_near a column e = rw e (below_8 a)

-- One test for all passes: where a pass goes by no wishes, there is none for any PID, and to ask for that changes nothing.
unfoldable pub rests_by : ℕ → Option PidPriority → Bool
rests_by n wish = eqb n 0 && is_none wish

abbrev pub rests_in : Pass → Option PidPriority → List ℕ → Bool
rests_in a wish row = rests_by (get_or row (column_of a) 0) wish

module _ (n : ℕ) (wish : Option PidPriority) (e : rests_by n wish ≡ true) where
  number_0 : eqb n 0 ≡ true
  unfolding rests_by
  number_0 = both_left (eqb n 0) (is_none wish) e

  unwanted : is_none wish ≡ true
  unfolding rests_by
  unwanted = both_right (eqb n 0) (is_none wish) e

pub rests_kept : (a : Pass) (s : Settings) (now : ℕ) (w : Option PidPriority) (row : List ℕ) → rests_in a w row ≡ true → entry_by a s now w (info_of row) ≡ info_of row
unfolding column_of entry_by
rests_kept Register s now w row e =
    let f = number_0 (get_or row 2 0) w e in
    unwanted_rests (info_of row) w now (unwanted (get_or row 2 0) w e) (rw (pinned_in row, f))
rests_kept Demote s now w row e = untracked_undemoted (info_of row) s.demotion s.removal now (rw (tracked_in row, number_0 (get_or row 0 0) w e))
rests_kept Remove s now w row e = untracked_stays (info_of row) s.removal now (rw (tracked_in row, number_0 (get_or row 0 0) w e))
rests_kept Clear s now w row e = uncounted_rests (info_of row) (count_in row ∙ (rw (eqb-true (get_or row 3 0) 0 (number_0 (get_or row 3 0) w e))))

-- The laws of a pass, over rows.
module _ (f : ℕ → PidInfo → PidInfo) where
  pub rows_end : (i : ℕ) (rows : List (List ℕ)) (o : Outbox) → length rows ≤ i → sweep_from f i (ledger_of rows o) ≡ ledger_of rows o
  unfolding ledger_of
  rows_end i rows o h = sweep_end f i (record { table = table_of rows; outbox = o }) (let n = table_length rows in omega arith)

  -- One PID further: r is what its row became, and p the outbox with what is told of it.
  pub rows_turn : (i : ℕ) (rows : List (List ℕ)) (o : Outbox) (r : List ℕ) (p : Outbox) → i < length rows
      → info_of r ≡ f i (info_of (get_or rows i []))
      → p ≡ send_all o (told_of i (speed (info_of (get_or rows i []))) (speed (info_of r)))
      → sweep_from f (i + 1) (ledger_of (set rows i r) p) ≡ sweep_from f i (ledger_of rows o)
  unfolding ledger_of
  rows_turn i rows o r p h e g =
      let n = table_length rows in
      let k = table_at rows i in
      rw (table_set rows i r)
      (sweep_turn f i (record { table = table_of rows; outbox = o }) nobody (info_of r) p (omega arith) (rw k e) (rw k g))

  -- One PID further, where its row stays as it was.
  pub rows_rest : (i : ℕ) (rows : List (List ℕ)) (o : Outbox) → i < length rows → f i (info_of (get_or rows i [])) ≡ info_of (get_or rows i [])
      → sweep_from f (i + 1) (ledger_of rows o) ≡ sweep_from f i (ledger_of rows o)
  unfolding ledger_of
  rows_rest i rows o h e =
      let n = table_length rows in
      let k = table_at rows i in
      sweep_rest f i (record { table = table_of rows; outbox = o }) nobody (omega arith) (rw k e)

-- A turn of a pass at the PID i, which is wanted so: with its row made anew, and where it rests.
module _ (a : Pass) (t : Terms) (i : ℕ) (w : Option PidPriority) (rows : List (List ℕ)) (o : Outbox) (near : i < length rows) (wanted : w ≡ wish_for a t.profiles i) where
  by_wish : (x : PidInfo) → entry_by a t.settings t.now w x ≡ entry_after a t i x
  by_wish x = rw wanted (entry_by_law a t i x)

  pub pass_turn : (x y : PidInfo) (r : List ℕ) (p : Outbox) → x ≡ info_of (get_or rows i [])
      → y ≡ entry_by a t.settings t.now w x → info_of r ≡ y → p ≡ send_all o (told_of i (speed x) (speed y))
      → sweep_from (entry_after a t) (i + 1) (ledger_of (set rows i r) p) ≡ sweep_from (entry_after a t) i (ledger_of rows o)
  pass_turn x y r p e g h k =
      rows_turn (entry_after a t) i rows o r p near
      (h ∙ g ∙ rw e (by_wish (info_of (get_or rows i []))))
      (rw (h, ← e) k)

  pub pass_rest : rests_in a w (get_or rows i []) ≡ true → sweep_from (entry_after a t) (i + 1) (ledger_of rows o) ≡ sweep_from (entry_after a t) i (ledger_of rows o)
  pass_rest e =
      rows_rest (entry_after a t) i rows o near
      (sym (by_wish (info_of (get_or rows i []))) ∙ rests_kept a t.settings t.now w (get_or rows i []) e)
