-- What the profiles in force want, a number for each PID.
use Rattle.std.specs.Prelude.{None, Option, Some, true, false, List, ◌≡◌, refl, ℕ, ◌+◌, ◌<◌, ◌≤◌, min, eqb, ltb, length, get_or, set, take, replicate}
use Rattle.std.proofs.Common.{sym, arith, get_or-set_same, get_or-set_other, eqb-true, ltb-true, ltb-false, take_all}
use Rattle.std.proofs.lemmas.List.{get_or-replicate}
use Rattle.std.proofs.lemmas.Bool.{eqb-false}
use Rattle.base.specs.Choice.{pick, cases}
use Rattle.config.specs.InForce.{in_force}
use Rattle.config.specs.declared.PidPriority.{PidPriority}
use Rattle.config.specs.declared.PidPriority.TheVariants.{Fast, Slow}
use Rattle.config.specs.declared.Profile.{Profile}
use Rattle.config.specs.declared.Profiles.{Profiles}
use Rattle.passes.specs.Wishes.{counts_of, priority_of, wished_by, joined, wish_of, joined_end, Wished, wished_start, wished_next, wished_end}
use Rattle.passes.specs.declared.Pass.{Pass}
use Rattle.passes.specs.declared.Pass.TheVariants.{Register, Demote, Remove, Clear}

-- The wish that a pass goes by.
unfoldable pub wish_for : Pass → Profiles → ℕ → Option PidPriority
wish_for Register ps p = wish_of (in_force ps) p
wish_for Demote ps p = None
wish_for Remove ps p = None
wish_for Clear ps p = None

-- Where nothing stands, nothing is wanted.
pub none_wanted : (q : ℕ) → q < 256 → get_or (replicate {A = Option PidPriority} 256 None) q None ≡ None
none_wanted q h = get_or-replicate {A = Option PidPriority} 256 q None None h

-- ---- the walk over the profiles

module _ (p : Profile) (q : ℕ) where
  wished_counted : eqb p.pid q ≡ true → counts_of p.kind p.enabled ≡ true → wished_by p q ≡ Some (priority_of p.priority)
  unfolding wished_by
  wished_counted e f = rw (e, f)

  wished_uncounted : counts_of p.kind p.enabled ≡ false → wished_by p q ≡ None
  unfolding wished_by
  wished_uncounted f = cases _ (eqb p.pid q) (λ e. rw (e, f)) (λ e. rw e)

  wished_elsewhere : eqb p.pid q ≡ false → wished_by p q ≡ None
  unfolding wished_by
  wished_elsewhere e = rw e

-- What has the wishes of the profiles before place i.
abbrev pub Collected : List Profile → List (Option PidPriority) → ℕ → Type 0
Collected ps found i = (q : ℕ) → q < 256 → Wished ps q (get_or found q None) i

module _ (ps : List Profile) where
  pub collected_start : Collected ps (replicate 256 None) 0
  collected_start q h = rw (none_wanted q h) (wished_start ps q)

  module _ (found : List (Option PidPriority)) (i : ℕ) (d : Profile) (h : i < length ps) (c : Collected ps found i) where
    abbrev profile : Profile
    profile = get_or ps i d

    same : (q : ℕ) → q < 256 → wished_by profile q ≡ None → Wished ps q (get_or found q None) (i + 1)
    same q g e = rw (e, joined_end (get_or found q None)) at (wished_next ps q (get_or found q None) i d h (c q g))

    pub collected_skips : counts_of profile.kind profile.enabled ≡ false → Collected ps found (i + 1)
    collected_skips e q g = same q g (wished_uncounted profile q e)

    pub collected_adds : (x : Option PidPriority) → length found ≡ 256 → counts_of profile.kind profile.enabled ≡ true
        → x ≡ joined (get_or found profile.pid None) (Some (priority_of profile.priority))
        → Collected ps (set found profile.pid x) (i + 1)
    collected_adds x long e f q g = cases _ (eqb profile.pid q)
        (λ z. let y = eqb-true profile.pid q z in
        let w = wished_next ps q (get_or found q None) i d h (c q g) in
        let v = rw (wished_counted profile q z e) at w in
        rw (y, get_or-set_same found q x None (omega arith)) (rw (rw y at f) v))
        (λ z. let y : (profile.pid ≡ q → ⊥) = eqb-false profile.pid q z in
        rw (get_or-set_other found profile.pid q x None (λ b. y (sym b))) (same q g (wished_elsewhere profile q z)))

  pub collected_end : (found : List (Option PidPriority)) (i : ℕ) → length ps ≤ i → Collected ps found i
      → (q : ℕ) → q < 256 → get_or found q None ≡ wish_of ps q
  collected_end found i h c q g = wished_end ps q (get_or found q None) i h (c q g)

-- The profiles in force, however large their count.
pub in_force_near : (ps : Profiles) → length ps.list ≡ 16 → take (min 16 ps.count) ps.list ≡ in_force ps
unfolding in_force
in_force_near ps long = cases _ (ltb ps.count 16)
    (λ e. let h = ltb-true ps.count 16 e in let z : min 16 ps.count ≡ ps.count = omega arith in rw z)
    (λ e. let h = ltb-false ps.count 16 e in
    let z : min 16 ps.count ≡ 16 = omega arith in
    rw (z, take_all 16 ps.list (omega arith), take_all ps.count ps.list (omega arith)))
