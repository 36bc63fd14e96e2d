-- `hex::turn_command` meets its contract.
use Rattle.hex_text.specs.Turn.{turned_none, turned_plain, turned_pairs, turned_other}
use Rattle.hex_text.specs.Laws.{rest_all}
use Rattle.hex_text.specs.Pairs.{turn_of, turned_bytes}
use Rattle.base.specs.Write.{over_lent}
use mathlib.Core.Path.{sym, ap, ◌∙◌}
use native.Mathlib.Omega.{arith}
use Rattle.hex_text.proofs.turn_command.Goals as goal

-- The clauses, each under its name.
named_value_s_after : {A B : Type 0} → A × B → record { value : A; s_after : B }
named_value_s_after p = record { value = p.0; s_after = p.1 }

pub returns-then-s-eq0 : goal.returns-then-s-eq0
returns-then-s-eq0 c = named_value_s_after (turned_none _ c.if-s-eq0.true)

pub returns-then-mark-eq39 : goal.returns-then-mark-eq39
returns-then-mark-eq39 c = named_value_s_after (turned_plain _ c.if-s-eq0.false c.if-mark-eq39.true)

pub returns-then-mark-eq120 : goal.returns-then-mark-eq120
returns-then-mark-eq120 c =
    let s = c.args.s.now in
    let p = turned_pairs s c.if-s-eq0.false c.if-mark-eq39.false c.if-mark-eq120.true in
    let e = c.turn.ensures in
    let all = ap turned_bytes (rest_all s) ∙ p.1 in
    record {
      value = e.value ∙ ap turn_of (rest_all s) ∙ p.0;
      s_after = rw (sym all) (over_lent s 1 _ _ (omega arith) e.s_after);
    }

pub returns : goal.returns
returns c =
    named_value_s_after (turned_other _ c.if-s-eq0.false c.if-mark-eq39.false c.if-mark-eq120.false)
