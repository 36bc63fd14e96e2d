-- What the manager's table counts: one law an event, one a pass.
use Rattle.std.specs.Prelude.{None, Option, Some, Bool, true, false, ◌&&◌, List, [], ◌∷◌, ◌≡◌, ℕ, ◌+◌, ◌<◌, ◌≤◌, eqb, ltb, length, get_or, set, replicate}
use Rattle.std.proofs.Math.Path.{refl, sym}
use Rattle.std.proofs.Common.{ap, ◌∙◌, get_or-set_same, get_or-set_other}
use native.Mathlib.Omega.{arith}
use Rattle.std.proofs.Math.ListN.{length-set, get_or-eq_default}
use Rattle.std.proofs.lemmas.List.{length-replicate, get_or-replicate}
use borrow.Author.Tests.{eqb-true, eqb-false, eq-eqb, ltb-true, ltb-false}
use Rattle.base.specs.Choice.{pick, one, cases, false_true}
use Rattle.base.specs.Count.{most, more_is}
use Rattle.config.specs.InForce.{in_force}
use Rattle.manager.specs.Calls.{registering, maintenance, entry_set, waiting_at, consumed_at, no_table}
use Rattle.manager.specs.declared.Manager.{Manager}
use Rattle.config.specs.declared.PidPriority.{PidPriority}
use Rattle.passes.specs.Laws.{through_at, through_length}
use Rattle.passes.specs.Sweep.{entry_after, through, upkeep, entry_through}
use Rattle.passes.specs.Wishes.{wish_of}
use Rattle.passes.specs.declared.Pass.{Pass}
use Rattle.passes.specs.declared.Pass.TheVariants.{Register, Demote, Remove, Clear}
use Rattle.passes.specs.declared.Terms.{Terms}
use Rattle.pid_table.specs.Entry.{nobody, waiting_of, promotes_of, consumed_of, registered_of, demotes_of, demoted_of, idle_of, removed_of, cleared_of}
use Rattle.pid_table.specs.declared.PidInfo.{PidInfo}
use Rattle.rate.specs.Rate.{most_counted}
use Rattle.figures.specs.Claim.{Tally}

abbrev pub entry : List PidInfo → ℕ → PidInfo
entry xs q = get_or xs q nobody

-- An entry that is not tracked has no count.
abbrev pub Blank : PidInfo → Type 0
Blank x = x.tracked ≡ false → x.count ≡ 0

-- A manager has counted what is read.
pub record Counted (m : Manager) (k : Tally) : Type 0 where
  pub whole : length m.table ≡ 256
  pub last : m.last ≡ k.since
  pub counts : (q : ℕ) → (entry m.table q).count ≡ k.counted q
  pub blank : (q : ℕ) → Blank (entry m.table q)
  pub hits : m.metrics.hits ≡ k.hits
  pub misses : m.metrics.misses ≡ k.misses
  pub few : k.hits + k.misses ≤ most_counted
  pub each : (q : ℕ) → k.counted q ≤ k.hits + k.misses

-- y is x with the same count, and blank if x is.
pub record Keeps (x y : PidInfo) : Type 0 where
  pub count : y.count ≡ x.count
  pub blank : Blank y

module _ (x : PidInfo) (b : Blank x) where
  pub waiting_keeps : (mode now : ℕ) → Keeps x (waiting_of mode now x)
  unfolding waiting_of
  waiting_keeps mode now = cases _ x.tracked
      (λ e. rw e (record { count = refl; blank = λ f. false_true (sym f) }))
      (λ e. rw e (record { count = sym (b e); blank = λ f. refl }))

  pub registered_keeps : (w : Option PidPriority) (now : ℕ) → Keeps x (registered_of w now x)
  unfolding registered_of
  registered_keeps None now = record { count = refl; blank = b }
  registered_keeps (Some p) now = cases _ x.tracked
      (λ e. rw e (record { count = refl; blank = λ f. false_true (sym f) }))
      (λ e. rw e (record { count = sym (b e); blank = λ f. refl }))

  pub demoted_keeps : (limit removal now : ℕ) → Keeps x (demoted_of limit removal now x)
  unfolding demoted_of
  demoted_keeps limit removal now = cases _ (demotes_of limit removal now x)
      (λ e. rw e (record { count = refl; blank = b }))
      (λ e. rw e (record { count = refl; blank = b }))

  -- A Consumed is counted where the PID is known.
  pub consumed_count : (promotes : Bool) (now : ℕ) → x.count < most → ((consumed_of promotes now x).count ≡ x.count + one x.tracked) × Blank (consumed_of promotes now x)
  unfolding consumed_of
  consumed_count promotes now few = cases _ x.tracked
      (λ e. rw e (omega (arith, more_is x.count), λ f. false_true (sym f)))
      (λ e. rw e (omega arith, λ f. b e))

-- Up to the report: what is still tracked has the count that it had.
module _ (t : Terms) (q : ℕ) (x : PidInfo) (b : Blank x) where
  pub upkeep_count : (entry_through t upkeep q x).tracked ≡ true → (entry_through t upkeep q x).count ≡ x.count
  unfolding entry_through entry_after removed_of
  upkeep_count e =
      let r = registered_keeps x b (wish_of (in_force t.profiles) q) t.now in
      let y = registered_of (wish_of (in_force t.profiles) q) t.now x in
      let d = demoted_keeps y r.blank t.settings.demotion t.settings.removal t.now in
      let z = demoted_of t.settings.demotion t.settings.removal t.now y in
      cases _ (idle_of t.settings.removal t.now z)
      (λ f. false_true (rw f at e))
      (λ f. rw f (d.count ∙ r.count))

-- ---- the whole table, also past its end

past : (xs : List PidInfo) (q : ℕ) → length xs ≤ q → entry xs q ≡ nobody
past xs q h = get_or-eq_default xs nobody h

nobody_keeps : Keeps nobody nobody
nobody_keeps = record { count = refl; blank = λ e. refl }

module _ (t : Terms) (xs : List PidInfo) (q : ℕ) where
  -- What passes make of the entry of q.
  pub entry_through_law : (ps : List Pass) (P : PidInfo → PidInfo → Type 0) → (q < length xs → P (entry xs q) (entry_through t ps q (entry xs q))) → P nobody nobody
      → P (entry xs q) (entry (through t ps xs) q)
  entry_through_law ps P f g = cases _ (ltb q (length xs))
      (λ e. let h = ltb-true q (length xs) e in rw (through_at t ps xs q nobody h) (f h))
      (λ e. let h = ltb-false q (length xs) e in let n = through_length t ps xs in rw (past xs q h, past (through t ps xs) q (omega arith)) g)

  pub registered_table : Blank (entry xs q) → Keeps (entry xs q) (entry (through t registering xs) q)
  unfolding entry_through entry_after
  registered_table b =
      entry_through_law registering Keeps (λ h. registered_keeps (entry xs q) b (wish_of (in_force t.profiles) q) t.now) nobody_keeps

  pub upkeep_table : Blank (entry xs q) → (entry (through t upkeep xs) q).tracked ≡ true → (entry (through t upkeep xs) q).count ≡ (entry xs q).count
  upkeep_table b =
      entry_through_law upkeep (λ x y. y.tracked ≡ true → y.count ≡ x.count) (λ h. upkeep_count t q (entry xs q) b) (λ e. refl)

  pub cleared_table : (entry (through t maintenance xs) q).count ≡ 0
  unfolding entry_through entry_after cleared_of
  cleared_table = entry_through_law maintenance (λ x y. y.count ≡ 0) (λ h. refl) refl

  pub maintained_table : (entry (through t maintenance xs) q).tracked ≡ (entry (through t upkeep xs) q).tracked
  unfolding entry_through entry_after cleared_of
  maintained_table = cases _ (ltb q (length xs))
      (λ e. let h = ltb-true q (length xs) e in rw (through_at t maintenance xs q nobody h, through_at t upkeep xs q nobody h))
      (λ e. let h = ltb-false q (length xs) e in
      let m = through_length t maintenance xs in
      let n = through_length t upkeep xs in
      rw (past (through t maintenance xs) q (omega arith), past (through t upkeep xs) q (omega arith)))

-- One entry set.
module _ (f : PidInfo → PidInfo) (p : ℕ) (xs : List PidInfo) where
  pub set_whole : length (entry_set f p xs) ≡ length xs
  unfolding entry_set
  set_whole = length-set xs p (f (get_or xs p nobody))

  pub entry_set_law : (q : ℕ) (P : PidInfo → Type 0) → (eqb p q ≡ true → P (f (entry xs p))) → (eqb p q ≡ true → entry xs p ≡ nobody → P nobody) → (eqb p q ≡ false → P (entry xs q))
      → P (entry (entry_set f p xs) q)
  unfolding entry_set
  entry_set_law q P here gone other = cases _ (eqb p q)
      (λ e. let z = eqb-true p q e in cases _ (ltb p (length xs))
      (λ a. rw (← z) (rw (get_or-set_same xs p (f (get_or xs p nobody)) nobody (ltb-true p (length xs) a)) (here e)))
      (λ a. let h = ltb-false p (length xs) a in
      let n = length-set xs p (f (get_or xs p nobody)) in
      rw (← z) (rw (past (set xs p (f (get_or xs p nobody))) p (omega arith)) (gone e (past xs p h)))))
      (λ e. let z : (p ≡ q → ⊥) = eqb-false p q e in rw (get_or-set_other xs p q (f (get_or xs p nobody)) nobody (λ y. z (sym y))) (other e))

module _ (t : Terms) (p : ℕ) (xs : List PidInfo) (q : ℕ) (b : Blank (entry xs q)) where
  pub waiting_table : Keeps (entry xs q) (entry (entry_set (waiting_at t) p xs) q)
  waiting_table = entry_set_law (waiting_at t) p xs q (Keeps (entry xs q))
      (λ e. let z = eqb-true p q e in rw z (waiting_keeps (entry xs q) b t.settings.mode t.now))
      (λ e g. let z = eqb-true p q e in let n : entry xs q ≡ nobody = rw z at g in rw n nobody_keeps)
      (λ e. record { count = refl; blank = b })

  -- A Consumed counts once, where its PID is known.
  pub record Counts (y : PidInfo) : Type 0 where
    pub count : y.count ≡ (entry xs q).count + one (eqb p q && (entry xs p).tracked)
    pub blank : Blank y

  pub consumed_table : (w : Option ℕ) → (entry xs q).count < most → Counts (entry (entry_set (consumed_at t w) p xs) q)
  consumed_table w few = entry_set_law (consumed_at t w) p xs q Counts
      (λ e. let z = eqb-true p q e in
      let c = consumed_count (entry xs q) b (promotes_of t.settings.mode t.settings.promotion w) t.now few in
      rw z (record { count = rw (eq-eqb q q refl) c.0; blank = c.1 }))
      (λ e g. let z = eqb-true p q e in
      let n : entry xs q ≡ nobody = rw z at g in
      record { count = rw (e, g, n); blank = λ f. refl })
      (λ e. record { count = rw e (omega arith); blank = b })

-- Nothing is counted before the start.
pub none_counted : (q : ℕ) → entry no_table q ≡ nobody
unfolding no_table
none_counted q = cases _ (ltb q 256)
    (λ e. get_or-replicate 256 q nobody nobody (ltb-true q 256 e))
    (λ e. let h = ltb-false q 256 e in let n = length-replicate 256 nobody in past (replicate 256 nobody) q (omega arith))
