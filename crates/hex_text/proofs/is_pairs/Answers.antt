-- `hex_text::is_pairs` meets its contract. The invariant: the answer is that of the highest value so far and of the digits
-- that are left.
use Rattle.std.proofs.Common.{arith, max, ◌+◌, get_or, drop, ◌≡◌, sym, ap, ◌∙◌, ◌&&◌, ltb, eq-eqb, ne_eqb}
use Rattle.ascii.specs.Chars.{hex_value}
use Rattle.hex_text.specs.Laws.{highest_digit, and_true, hexes_next, hexes_end}
use Rattle.hex_text.specs.Pairs.{is_pairs, hexes}
use Rattle.hex_text.proofs.is_pairs.Goals as goal
use Rattle.hex_text.proofs.is_pairs.Goals.{then-highest-v, else-highest-v}

pub returns-then-s-ne0 : goal.returns-then-s-ne0
unfolding is_pairs
returns-then-s-ne0 c = rw (ne_eqb _ _ c.if-s-ne0.true)

pub loop-b-init : goal.loop-b-init
unfolding is_pairs
loop-b-init c = rw (eq-eqb _ _ c.if-s-ne0.false)

pub loop-b-preserved : goal.loop-b-preserved
loop-b-preserved c =
    let b = c.loop-b in
    let g = hex_value (get_or c.args.s.now b.b-index 0) in
    let v : c.digit_value-v.result ≡ g = c.digit_value-v.ensures in
    let e = b.invariant ∙ ap (λ x. ltb b.highest 16 && x) (hexes_next _ b.b-index (omega arith)) ∙ highest_digit b.highest g (hexes (drop (b.b-index + 1) c.args.s.now)) in
    elim c.if-highest-v.branch [ then-highest-v w ↦ (let z : max b.highest g ≡ c.digit_value-v.result = omega arith in rw w.highest-is (rw z at e)) | else-highest-v w ↦ (let z : max b.highest g ≡ b.highest = omega arith in rw w.highest-is (rw z at e)) ]

pub returns : goal.returns
returns c =
    sym (c.loop-b.invariant ∙ ap (λ x. ltb c.loop-b.highest 16 && x) (hexes_end _ c.loop-b.b-index (omega arith)) ∙ and_true (ltb c.loop-b.highest 16))
