-- What the profiles in force want of a PID: document 01, "Start, ProfilePidsChanged".
use Rattle.std.specs.Prelude.{None, Option, Some, Bool, List, [], ◌∷◌, ◌≡◌, ℕ, suc, ◌+◌, ◌<◌, ◌≤◌, ltb, eqb, length, drop}
use Rattle.std.proofs.Math.Path.{refl}
use Rattle.std.proofs.Math.ListN.{get_or}
use Rattle.std.proofs.Common.{add-one, drop_of_length-le, drop-cons}
use Rattle.base.specs.Choice.{pick}
use Rattle.config.specs.declared.PidPriority.{PidPriority}
use Rattle.config.specs.declared.PidPriority.TheVariants.{Fast, Slow}
use Rattle.config.specs.declared.Profile.{Profile}
use Rattle.pid_table.specs.Entry.{is_fast, promoted_if}

-- Kind 0 (active normal) and 1 (overlay) are in force; 2 (triggered) only when enabled. Others are refused before.
unfoldable pub counts_of : ℕ → Bool → Bool
counts_of kind enabled = pick (eqb kind 2) enabled (ltb kind 2)

-- 0 Fast, 1 Slow. Others are refused before.
unfoldable pub priority_of : ℕ → PidPriority
priority_of n = pick (eqb n 0) Fast Slow

unfoldable pub wished_by : Profile → ℕ → Option PidPriority
wished_by p q = pick (eqb p.pid q) (pick (counts_of p.kind p.enabled) (Some (priority_of p.priority)) None) None

-- One Fast wish makes a PID Fast.
unfoldable pub joined : Option PidPriority → Option PidPriority → Option PidPriority
joined None w = w
joined (Some p) None = Some p
joined (Some p) (Some r) = Some (promoted_if (is_fast p) r)

-- What all of them want.
unfoldable pub wish_of : List Profile → ℕ → Option PidPriority
wish_of [] q = None
wish_of (p ∷ ps) q = joined (wished_by p q) (wish_of ps q)

pub joined_end : (w : Option PidPriority) → joined w None ≡ w
unfolding joined
joined_end None = refl
joined_end (Some p) = refl

pub joined_assoc : (u v w : Option PidPriority) → joined (joined u v) w ≡ joined u (joined v w)
unfolding joined is_fast
joined_assoc None v w = refl
joined_assoc (Some p) None w = refl
joined_assoc (Some p) (Some q) None = refl
joined_assoc (Some Fast) (Some q) (Some r) = refl
joined_assoc (Some Slow) (Some q) (Some r) = refl

-- A walk that has found this before place i: what is left of it.
abbrev pub Wished : List Profile → ℕ → Option PidPriority → ℕ → Type 0
Wished ps q found i = joined found (wish_of (drop i ps) q) ≡ wish_of ps q

module _ (ps : List Profile) (q : ℕ) where
  pub wished_start : Wished ps q None 0
  unfolding joined
  wished_start = refl

  pub wished_next : (found : Option PidPriority) (i : ℕ) (d : Profile) → i < length ps → Wished ps q found i
      → Wished ps q (joined found (wished_by (get_or ps i d) q)) (i + 1)
  unfolding wish_of
  wished_next found i d h w =
      let p = get_or ps i d in
      rw (add-one i, joined_assoc found (wished_by p q) (wish_of (drop (suc i) ps) q)) (rw (drop-cons ps i d h) at w)

  pub wished_end : (found : Option PidPriority) (i : ℕ) → length ps ≤ i → Wished ps q found i → found ≡ wish_of ps q
  unfolding wish_of
  wished_end found i h w = rw (drop_of_length-le ps h, joined_end found) at w
