-- A table's rule, proved at all of its entries by one test that antt computes over the whole table.
use Rattle.std.specs.Prelude.{Bool, true, false, List, [], ◌∷◌, ◌≡◌, ℕ, zero, suc, ◌+◌, ◌<◌, length, get_or}
use Rattle.std.proofs.Common.{arith}
use Rattle.base.specs.Choice.{pick, cases, false_true}

-- The test passes at each entry and its place, counted from i.
abbrev pub every : (ℕ → ℕ → Bool) → ℕ → List ℕ → Bool
every test i [] = true
every test i (x ∷ xs) = pick (test i x) (every test (suc i) xs) false

module _ (test : ℕ → ℕ → Bool) where
  from : (xs : List ℕ) (i : ℕ) → every test i xs ≡ true → (k : ℕ) → k < length xs → test (i + k) (get_or xs k 0) ≡ true
  from [] i e k h = absurd (omega arith)
  from (x ∷ xs) i e zero h =
      let z : i + 0 ≡ i = omega arith in
      cases _ (test i x) (λ b. rw (z, b)) (λ b. false_true (rw b at e))
  from (x ∷ xs) i e (suc k) h =
      let z : i + suc k ≡ suc i + k = omega arith in
      cases _ (test i x)
      (λ b. rw z (from xs (suc i) (rw b at e) k (omega arith)))
      (λ b. false_true (rw b at e))

  pub at : (xs : List ℕ) → every test 0 xs ≡ true → (k : ℕ) → k < length xs → test k (get_or xs k 0) ≡ true
  at xs e k h = let z : 0 + k ≡ k = omega arith in rw z at (from xs 0 e k h)
