-- `take_of`, case by case.
use Rattle.std.specs.Prelude.{List, [], ◌∷◌, ◌≡◌, refl, ℕ, ◌<◌, ◌≤◌, length, take, drop}
use Rattle.std.proofs.Common.{arith}
use borrow.Author.Tests.{lt-ltb, le-ltb, eq-eqb, ne_eqb}
use Rattle.plan.specs.Groups.{width_of, members}
use Rattle.plan.specs.Steps.{line_of, key_in, least_in, chunk_of, gather_of, gathered, take_of}
use Rattle.plan.specs.declared.Plan.{Plan}

empty_chunk : (xs : List ℕ) → length xs ≡ 0 → chunk_of xs ≡ chunk_of []
empty_chunk [] e = refl
empty_chunk (x ∷ xs) e = absurd (omega arith)

module _ (p : Plan) where
  pub take_here : ((gather_of p p.group p.at).chunk.count ≡ 0 → ⊥) → take_of p ≡ gathered p p.group p.at
  unfolding take_of
  take_here h = rw (ne_eqb (gather_of p p.group p.at).chunk.count 0 h)

  pub take_done : (gather_of p p.group p.at).chunk.count ≡ 0 → 256 < least_in p p.group → take_of p ≡ record { plan = p; chunk = chunk_of [] }
  unfolding take_of
  take_done e h = rw (eq-eqb (gather_of p p.group p.at).chunk.count 0 e, lt-ltb 256 (least_in p p.group) h)

  pub take_next : (gather_of p p.group p.at).chunk.count ≡ 0 → least_in p p.group ≤ 256 → take_of p ≡ gathered p (least_in p p.group) 0
  unfolding take_of
  take_next e h = rw (eq-eqb (gather_of p p.group p.at).chunk.count 0 e, le-ltb 256 (least_in p p.group) h)

  pub gather_none : (g from : ℕ) → (gather_of p g from).chunk.count ≡ 0 → (gather_of p g from).chunk ≡ chunk_of []
  unfolding gather_of
  gather_none g from e = empty_chunk (take (width_of p.maxpids g) (members (key_in p) g (drop from (line_of p)))) e
