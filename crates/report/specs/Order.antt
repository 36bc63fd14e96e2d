-- The order of the report, as one of whole numbers: the ranks of its rates, and the PIDs.
use Rattle.std.specs.Prelude.{Bool, true, false, ◌&&◌, ◌||◌, ◌≡◌, ℕ, ◌<◌, ◌≤◌, ltb, eqb}
use Rattle.std.proofs.Common.{sym, ◌∙◌, arith, ltb-true, ltb-false, eqb-true, lt-ltb, eq-eqb}
use Rattle.std.proofs.lemmas.Bool.{eqb-false}
use Rattle.base.specs.Choice.{cases}
use Rattle.rate.specs.Order.{Ranked, rank, lt_rank, eq_rank}
use Rattle.report.specs.Rates.{ahead_of}
use Rattle.report.specs.declared.Rated.{Rated}

true_is_not_false : false ≡ true → ⊥
true_is_not_false e = let z : ◌≡◌ {A = ℕ} 0 1 = cc in omega arith

-- The ranks a and b, and the PIDs p and q.
module _ (a b p q : ℕ) where
  abbrev order : Bool
  order = ltb a b || (eqb a b && ltb p q)

  order_true : order ≡ true → (a ≤ b) × (b ≤ a → p < q)
  order_true e = cases _ (ltb a b)
      (λ f. let h = ltb-true a b f in (omega arith, λ g. omega arith))
      (λ f. cases _ (eqb a b)
      (λ g. let h = eqb-true a b g in let k = rw (f, g) at e in (omega arith, λ m. ltb-true p q k))
      (λ g. let k : false ≡ true = rw (f, g) at e in absurd (true_is_not_false k)))

  order_false : order ≡ false → (p ≡ q → ⊥) → (b ≤ a) × (a ≤ b → q < p)
  order_false e d = cases _ (ltb a b)
      (λ f. let k : true ≡ false = rw f at e in absurd (true_is_not_false (sym k)))
      (λ f. let h = ltb-false a b f in cases _ (eqb a b)
      (λ g. let k = ltb-false p q (rw (f, g) at e) in (h, λ m. omega arith))
      (λ g. let k : (a ≡ b → ⊥) = eqb-false a b g in (h, λ m. omega arith)))

  order_holds : a ≤ b → (b ≤ a → p < q) → order ≡ true
  order_holds h k = cases _ (ltb a b)
      (λ f. rw f)
      (λ f. let g = ltb-false a b f in rw (f, eq-eqb a b (omega arith), lt-ltb p q (k g)))

-- The first is ahead of the second: its rate is no lower, and where the other's is no lower either, its PID is.
pub record Before (a b : Rated) : Type 0 where
  pub higher : rank b.rate ≤ rank a.rate
  pub tied : rank a.rate ≤ rank b.rate → a.pid < b.pid

-- Its rate has a rank: it is finite and not negative, as every rate is.
abbrev pub Rankable : Rated → Type 0
Rankable a = Ranked a.rate

module _ (a b : Rated) (p : Rankable a) (q : Rankable b) where
  ahead_is : ahead_of a b ≡ order (rank b.rate) (rank a.rate) a.pid b.pid
  unfolding ahead_of
  ahead_is = rw (lt_rank b.rate a.rate q p, eq_rank b.rate a.rate q p)

  pub ahead_before : ahead_of a b ≡ true → Before a b
  ahead_before e =
      let o = order_true (rank b.rate) (rank a.rate) a.pid b.pid (sym ahead_is ∙ e) in
      record { higher = o.0; tied = o.1 }

  pub before_ahead : Before a b → ahead_of a b ≡ true
  before_ahead k = ahead_is ∙ order_holds (rank b.rate) (rank a.rate) a.pid b.pid k.higher k.tied

  pub not_ahead : ahead_of a b ≡ false → (a.pid ≡ b.pid → ⊥) → Before b a
  not_ahead e d =
      let o = order_false (rank b.rate) (rank a.rate) a.pid b.pid (sym ahead_is ∙ e) d in
      record { higher = o.0; tied = o.1 }

pub before_trans : (a b c : Rated) → Before a b → Before b c → Before a c
before_trans a b c h k =
    let x = h.higher in
    let y = k.higher in
    record { higher = omega arith; tied = λ t. let m = h.tied (omega arith) in let n = k.tied (omega arith) in omega arith }
