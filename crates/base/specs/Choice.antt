-- Choosing by a test, in a definition and in a proof.
use Rattle.std.specs.Prelude.{Bool, true, false, ◌≡◌, refl, ℕ}
use Rattle.std.proofs.Common.{arith}

-- The first where the test is true, else the second.
abbrev pub pick : {A : Type 0} → Bool → A → A → A
pick true a b = a
pick false a b = b

-- 1 for a test that is true, else 0.
abbrev pub one : Bool → ℕ
one true = 1
one false = 0

-- The two cases of a test, each with what the test was.
pub cases : (P : Type 0) (b : Bool) → (b ≡ true → P) → (b ≡ false → P) → P
cases P true f g = f refl
cases P false f g = g refl

-- No test is both.
pub false_true : {A : Type 0} → false ≡ true → A
false_true e = absurd (let z : ◌≡◌ {A = ℕ} 0 1 = cc in omega arith)
