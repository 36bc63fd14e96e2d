-- Lists of bytes, since antt's numbers have no bounds of their own. Past its end a list has 0.
use Rattle.std.specs.Prelude.{true, List, [], ◌∷◌, ◌≡◌, ℕ, zero, suc, ◌<◌, ltb, length, get_or, take, drop}
use Rattle.std.proofs.Common.{arith, ltb-true, ltb-false}
use Rattle.std.proofs.Math.ListN.{get_or-eq_default}
use Rattle.base.specs.Choice.{cases}
use Rattle.base.specs.Table.{every, at}

pub record Bytes (xs : List ℕ) : Type 0 where
  pub each : (i : ℕ) → get_or xs i 0 < 256

pub no_bytes : Bytes []
no_bytes = record { each = λ i. omega arith }

pub bytes_first : {x : ℕ} {xs : List ℕ} → Bytes (x ∷ xs) → x < 256
bytes_first h = h.each 0

pub bytes_rest : {x : ℕ} {xs : List ℕ} → Bytes (x ∷ xs) → Bytes xs
bytes_rest h = record { each = λ i. h.each (suc i) }

one_more : {x : ℕ} {xs : List ℕ} → x < 256 → Bytes xs → (i : ℕ) → get_or (x ∷ xs) i 0 < 256
one_more b h zero = b
one_more b h (suc i) = h.each i

pub bytes_more : {x : ℕ} {xs : List ℕ} → x < 256 → Bytes xs → Bytes (x ∷ xs)
bytes_more b h = record { each = one_more b h }

pub bytes_take : (n : ℕ) (xs : List ℕ) → Bytes xs → Bytes (take n xs)
bytes_take zero xs h = no_bytes
bytes_take (suc n) [] h = no_bytes
bytes_take (suc n) (x ∷ xs) h = bytes_more (bytes_first h) (bytes_take n xs (bytes_rest h))

pub bytes_drop : (n : ℕ) (xs : List ℕ) → Bytes xs → Bytes (drop n xs)
bytes_drop zero xs h = h
bytes_drop (suc n) [] h = no_bytes
bytes_drop (suc n) (x ∷ xs) h = bytes_drop n xs (bytes_rest h)

-- By one test that antt computes.
pub bytes_tested : (xs : List ℕ) → every (λ i x. ltb x 256) 0 xs ≡ true → Bytes xs
bytes_tested xs e = record {
  each = λ i. cases _ (ltb i (length xs))
      (λ b. ltb-true (get_or xs i 0) 256 (at (λ j x. ltb x 256) xs e i (ltb-true i (length xs) b)))
      (λ b. rw (get_or-eq_default xs 0 {n = i} (ltb-false i (length xs) b)) (omega arith));
}
