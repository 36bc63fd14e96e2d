-- `text::until` meets its contract: what `position` answers, or the length.
use Rattle.std.proofs.Common.{rules, tests, ◌∙◌, eqb}
use Rattle.std.proofs.lemmas.Iterator.{YieldsList-from_slice}
use Rattle.std.proofs.lemmas.Iterator.Search.{position_from_yields_List}
use Rattle.text.specs.Cut.{place_found}
use Rattle.text.proofs.until.Goals as goal

pub returns : goal.returns
returns c =
    c.unwrap_or.ensures ∙ place_found c.args.b c.args.s.now c.position.result
    (position_from_yields_List (λ x. eqb x c.args.b) _ _ _ c.position.ensures.ran (YieldsList-from_slice c.args.s.now (cc)) (λ x b q k. search (rules, tests)))
