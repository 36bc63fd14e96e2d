-- Pigeons: where nothing stands twice, and nothing but numbers below n, there are at most n.
use Rattle.std.specs.Prelude.{List, [], ◌∷◌, ◌≡◌, refl, ℕ, zero, suc, ◌+◌, ◌<◌, ◌≤◌, ltb, eqb, length}
use Rattle.std.proofs.Common.{arith, ltb-true, ltb-false, eqb-true, lt-ltb, le-ltb, eq-eqb, ne_eqb}
use Rattle.std.proofs.lemmas.Bool.{eqb-false}
use Rattle.base.specs.Choice.{one, cases}
use Rattle.base.specs.Times.{times}

-- How many are below n.
below : ℕ → List ℕ → ℕ
below n [] = 0
below n (x ∷ xs) = one (ltb x n) + below n xs

below_zero : (xs : List ℕ) → below 0 xs ≡ 0
unfolding below
below_zero [] = refl
below_zero (x ∷ xs) = rw (le-ltb x 0 (omega arith)) (omega (arith, below_zero xs))

one_more : (x n : ℕ) → one (ltb x (suc n)) ≡ one (ltb x n) + one (eqb x n)
one_more x n = cases _ (ltb x n)
    (λ e. let a = ltb-true x n e in rw (e, lt-ltb x (suc n) (omega arith), ne_eqb x n (λ z. omega arith)))
    (λ e. let a = ltb-false x n e in rw e (cases _ (eqb x n)
    (λ f. let b = eqb-true x n f in rw (f, lt-ltb x (suc n) (omega arith)))
    (λ f. let b : (x ≡ n → ⊥) = eqb-false x n f in rw (f, le-ltb x (suc n) (omega arith)))))

below_suc : (n : ℕ) (xs : List ℕ) → below (suc n) xs ≡ below n xs + times n xs
unfolding times below
below_suc n [] = refl
below_suc n (x ∷ xs) = omega (arith, one_more x n, below_suc n xs)

below_le : (n : ℕ) (xs : List ℕ) → ((q : ℕ) → times q xs ≤ 1) → below n xs ≤ n
below_le zero xs h = omega (arith, below_zero xs)
below_le (suc n) xs h = omega (arith, below_suc n xs, below_le n xs h, h n)

below_all : (n : ℕ) (xs : List ℕ) → ((q : ℕ) → n ≤ q → times q xs ≡ 0) → below n xs ≡ length xs
unfolding times below
below_all n [] h = refl
below_all n (x ∷ xs) h = cases _ (ltb x n)
    (λ e. rw e (omega (arith, below_all n xs (λ q k. let a = h q k in omega arith))))
    (λ e. let a = h x (ltb-false x n e) in let b = rw (eq-eqb x x refl) at a in omega arith)

-- One of them missing, there are fewer.
below_less : (n p : ℕ) (xs : List ℕ) → p < n → ((q : ℕ) → times q xs ≤ 1) → times p xs ≡ 0 → below n xs < n
below_less zero p xs k h z = omega arith
below_less (suc n) p xs k h z = cases _ (eqb p n)
    (λ e. let a = eqb-true p n e in let b : times n xs ≡ 0 = rw (← a) z in omega (arith, below_suc n xs, below_le n xs h))
    (λ e. let a : (p ≡ n → ⊥) = eqb-false p n e in omega (arith, below_suc n xs, below_less n p xs (omega arith) h z, h n))

pub pigeons : (n p : ℕ) (xs : List ℕ) → p < n → ((q : ℕ) → times q xs ≤ 1) → ((q : ℕ) → n ≤ q → times q xs ≡ 0) → times p xs ≡ 0 → length xs < n
pigeons n p xs k h b z = omega (arith, below_all n xs b, below_less n p xs k h z)
