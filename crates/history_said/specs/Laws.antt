-- Laws of the definitions of `Texts`.
use Rattle.std.specs.Prelude.{◌≡◌, ℕ, suc, ◌+◌, ◌-◌, ◌<◌, ◌≤◌, min, Bool, false, List, [], ◌++◌, length, take, ◌≢◌, nat_le, slice_index, slice_index_or}
use Rattle.std.proofs.Common.{sym, ◌∙◌, take_all, eq-eqb, ne_eqb, leb-true, leb-false}
use native.Mathlib.Omega.{arith}
use Rattle.std.proofs.Math.Numerals.{add-one}
use Rattle.base.specs.Choice.{cases}
use Rattle.base.specs.Letters.{letters}
use Rattle.numeral.specs.Decimal.{decimal_text}
use Rattle.history_said.specs.Texts.{ecu_text, value_text, values_from}

-- A count over the end of a list reads it as far as it goes.
pub take_min : {A : Type 0} (n : ℕ) (xs : List A) → take (min n (length xs)) xs ≡ take n xs
take_min n xs =
    cases _ (nat_le n (length xs))
    (λ e. let h = leb-true n (length xs) e in
    let z : min n (length xs) ≡ n = omega arith in rw z)
    (λ e. let h = leb-false n (length xs) e in
    let z : min n (length xs) ≡ length xs = omega arith in
    rw z (take_all (length xs) xs (omega arith) ∙ sym (take_all n xs (omega arith))))

pub take_least : {A : Type 0} (n k : ℕ) (xs : List A) → length xs ≡ k → take (min n k) xs ≡ take n xs
take_least n k xs e = rw (sym e) (take_min n xs)

pub ecu_none : (n : ℕ) → n ≡ 0 → ecu_text n ≡ letters "-"
unfolding ecu_text
ecu_none n e = rw (eq-eqb n 0 e)

pub ecu_some : (n : ℕ) → (n ≢ 0) → ecu_text n ≡ decimal_text n
unfolding ecu_text
ecu_some n e = rw (ne_eqb n 0 e)

-- Values from the front: what is left of them at place i.
module _ (n : ℕ) (ps vs : List ℕ) (bs : List Bool) (i : ℕ) where
  pub values_next : i < n → values_from i (n - i) ps vs bs ≡ value_text (slice_index ps i) (slice_index vs i) (slice_index_or bs i false) ++ values_from (i + 1) (n - (i + 1)) ps vs bs
  unfolding values_from
  values_next h = let z : n - i ≡ suc (n - (i + 1)) = omega arith in rw (z, add-one i)

  pub values_end : n ≤ i → values_from i (n - i) ps vs bs ≡ []
  unfolding values_from
  values_end h = let z : n - i ≡ 0 = omega arith in rw z
