-- `hex::turn` meets its contract.
use Rattle.hex_text.specs.Turn.{turned_bad, turned_good}
use borrow.Author.Tests.{not-true, not-false}
use mathlib.Core.Path.{sym, ◌∙◌}
use Rattle.hex_text.proofs.turn.Goals as goal

-- The clauses, each under its name.
named_value_s_after : {A B : Type 0} → A × B → record { value : A; s_after : B }
named_value_s_after p = record { value = p.0; s_after = p.1 }

pub returns-then-not-is_pairs : goal.returns-then-not-is_pairs
returns-then-not-is_pairs c =
    named_value_s_after (turned_bad _ (sym c.is_pairs.ensures ∙ not-true _ c.if-not-is_pairs.true-raw))

pub turn_pairs-requires : goal.turn_pairs-requires
turn_pairs-requires c = sym c.is_pairs.ensures ∙ not-false _ c.if-not-is_pairs.false-raw

pub returns : goal.returns
returns c =
    named_value_s_after (turned_good _ _ _ (sym c.is_pairs.ensures ∙ not-false _ c.if-not-is_pairs.false-raw) c.turn_pairs.auto.s c.turn_pairs.ensures)
