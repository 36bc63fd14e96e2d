-- Two tests at once, and one test that cannot be.
use Rattle.std.specs.Prelude.{Bool, true, false, ◌&&◌, ◌≡◌, refl, ℕ}
use Rattle.std.proofs.Common.{arith}

pub both : (a b : Bool) → a ≡ true → b ≡ true → (a && b) ≡ true
both a b e f = rw (e, f)

pub both_left : (a b : Bool) → (a && b) ≡ true → a ≡ true
both_left true b h = refl
both_left false b h = cc

pub both_right : (a b : Bool) → (a && b) ≡ true → b ≡ true
both_right true b h = h
both_right false b h = cc

-- A test is not true and false.
pub never : {P : Type 0} (b : Bool) → b ≡ true → b ≡ false → P
never b e f = let z : ◌≡◌ {A = ℕ} 0 1 = cc in absurd (omega arith)
