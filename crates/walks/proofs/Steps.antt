-- Steps of a walk that a proof by hand takes: a callee's answer, and the clauses at the exit.
use mathlib.Core.List.{List, [], ◌∷◌}
use seplogic.Ra.Ura.{Ura}
use mir.Val.{Val}
use base.Logic.{SProp, ent, sep, emp, via, id⊢}
use base.Fml.{Fml}
use types.Logic.{Logic}
use contract.Monad.{fact, fact_i}
use types.Kit.{Goal, Item, Seq, Soaks, Step, step, prop, mean, ‵, raw, ◌⊛◌, some, later, ◌$◌, ◌∵◌, !, qed}
use types.Kit.{move, drop, use0, use1, split, pick, await, done}
use denote.RattleType.{RattleType}
use denote.Steps.{heard}

-- What a call gives: for some answer, the tokens, what the answer owns, and the clauses beside what is last.
module _ {M : Type 1} {𝓤 : Ura M} where
  abbrev pub Answer : Item 𝓤 → (T : RattleType) → (T.Denot → SProp 𝓤) → (X : Type 0) → (X → Fml) → Val → Item 𝓤
  Answer tokens T clauses X last w = later (some (λ (r : T.Denot). (tokens ⊛ ‵ (T.own_val r (w ∷ []))) ⊛ some (λ (ws : X). ‵ (last ws) ⊛ raw (clauses r))))

-- A callee that changes nothing lent has answered. What is had then: what its clauses say, what its answer owns, and its
-- lifetimes' tokens. `told` and `told2` learn one clause and two.
module _ {M : Type 1} {𝓤 : Ura M} {𝓛 : Logic 𝓤} {K : Type 0} {Γ : List (Item 𝓤)} {G : Goal 𝓤 𝓛.H} where
  pub answered : K → Soaks G → {Q : SProp 𝓤} (tokens : Item 𝓤) (T : RattleType) (clauses : T.Denot → SProp 𝓤) {X : Type 0} (last : X → Fml) (w : Val)
      → ent 𝓤 Q (mean 𝓛 (Answer tokens T clauses X last w))
      → ((r : T.Denot) → Seq K 𝓛 (raw (clauses r) ∷ ‵ (T.own_val r (w ∷ [])) ∷ tokens ∷ Γ) G) → Seq K 𝓛 (raw Q ∷ Γ) G
  answered t z tokens T clauses {X} last w e k =
      use1 𝓛 (Answer tokens T clauses X last w) e $
      await t z $ pick t (λ r. split t $ move t (1 ∷ []) $ pick t (λ ws. split t $ drop t $ move t (1 ∷ []) $ split t $ move t (2 ∷ 1 ∷ []) $ k r))

  pub told : K → Soaks G → {Q : SProp 𝓤} (tokens : Item 𝓤) (T : RattleType) (φ : T.Denot → Type 0) {X : Type 0} (last : X → Fml) (w : Val)
      → ent 𝓤 Q (mean 𝓛 (Answer tokens T (λ r. fact 𝓤 (φ r)) X last w))
      → ((r : T.Denot) → φ r → Seq K 𝓛 (‵ (T.own_val r (w ∷ [])) ∷ tokens ∷ Γ) G) → Seq K 𝓛 (raw Q ∷ Γ) G
  told t z tokens T φ last w e k = answered t z tokens T (λ r. fact 𝓤 (φ r)) last w e (λ r. heard t (φ r) (k r))

  pub told2 : K → Soaks G → {Q : SProp 𝓤} (tokens : Item 𝓤) (T : RattleType) (φ ψ : T.Denot → Type 0) {X : Type 0} (last : X → Fml) (w : Val)
      → ent 𝓤 Q (mean 𝓛 (Answer tokens T (λ r. sep 𝓤 (fact 𝓤 (φ r)) (fact 𝓤 (ψ r))) X last w))
      → ((r : T.Denot) → φ r → ψ r → Seq K 𝓛 (‵ (T.own_val r (w ∷ [])) ∷ tokens ∷ Γ) G) → Seq K 𝓛 (raw Q ∷ Γ) G
  told2 t z tokens T φ ψ last w e k =
      answered t z tokens T (λ r. sep 𝓤 (fact 𝓤 (φ r)) (fact 𝓤 (ψ r))) last w e
      (λ r. use1 𝓛 (raw (fact 𝓤 (φ r)) ⊛ raw (fact 𝓤 (ψ r))) (id⊢ 𝓤 _) $ split t $ heard t (φ r) (λ p. heard t (ψ r) (k r p)))

-- Two clauses of a contract are shown, or three or four, and what stands before them is left.
module _ {M : Type 1} {𝓤 : Ura M} {𝓛 : Logic 𝓤} {K : Type 0} {Γ : List (Item 𝓤)} {P : SProp 𝓤} where
  pub says2 : K → {α β : Type 0} → α → β → Step K 𝓛 Γ (prop P) Γ (prop (sep 𝓤 P (sep 𝓤 (fact 𝓤 α) (fact 𝓤 β))))
  says2 t {α} {β} x y = step (λ s. record {
    prf = via 𝓤 P s.prf (qed 𝓛 (raw P ∷ []) ∵ use0 𝓛 (raw (fact 𝓤 β)) (fact_i 𝓤 β (emp 𝓤) y) $ use0 𝓛 (raw (fact 𝓤 α)) (fact_i 𝓤 α (emp 𝓤) x) $ move ! (2 ∷ []) $ done !);
  })

  pub says3 : K → {α β γ : Type 0} → α → β → γ → Step K 𝓛 Γ (prop P) Γ (prop (sep 𝓤 P (sep 𝓤 (fact 𝓤 α) (sep 𝓤 (fact 𝓤 β) (fact 𝓤 γ)))))
  says3 t {α} {β} {γ} x y z = step (λ s. record {
    prf = via 𝓤 P s.prf (qed 𝓛 (raw P ∷ []) ∵ use0 𝓛 (raw (fact 𝓤 γ)) (fact_i 𝓤 γ (emp 𝓤) z) $ use0 𝓛 (raw (fact 𝓤 β)) (fact_i 𝓤 β (emp 𝓤) y) $
        use0 𝓛 (raw (fact 𝓤 α)) (fact_i 𝓤 α (emp 𝓤) x) $ move ! (3 ∷ []) $ done !);
  })

  pub says4 : K → {α β γ δ : Type 0} → α → β → γ → δ
      → Step K 𝓛 Γ (prop P) Γ (prop (sep 𝓤 P (sep 𝓤 (fact 𝓤 α) (sep 𝓤 (fact 𝓤 β) (sep 𝓤 (fact 𝓤 γ) (fact 𝓤 δ))))))
  says4 t {α} {β} {γ} {δ} x y z w = step (λ s. record {
    prf = via 𝓤 P s.prf (qed 𝓛 (raw P ∷ []) ∵ use0 𝓛 (raw (fact 𝓤 δ)) (fact_i 𝓤 δ (emp 𝓤) w) $ use0 𝓛 (raw (fact 𝓤 γ)) (fact_i 𝓤 γ (emp 𝓤) z) $
        use0 𝓛 (raw (fact 𝓤 β)) (fact_i 𝓤 β (emp 𝓤) y) $ use0 𝓛 (raw (fact 𝓤 α)) (fact_i 𝓤 α (emp 𝓤) x) $ move ! (4 ∷ []) $ done !);
  })
