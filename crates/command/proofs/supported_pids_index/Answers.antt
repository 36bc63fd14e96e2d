-- `command::supported_pids_index` meets its contract: what `position` answers.
use Rattle.std.proofs.Common.{rules, tests, sym, ◌∙◌, ◌≡◌}
use Rattle.std.specs.Str.{str_eq_ignore_ascii_case}
use Rattle.std.proofs.lemmas.Iterator.{YieldsList-from_slice}
use Rattle.std.proofs.lemmas.Iterator.Search.{position_from_yields_List}
use Rattle.command.specs.Classify.{range_texts, range_of}
use Rattle.command.specs.Laws.{range_found}
use Rattle.command.proofs.supported_pids_index.Goals as goal
use Rattle.command.proofs.supported_pids_index.Goals.{After-position}

found : (c : After-position) → c.position.result ≡ range_of c.args.cmd.now
unfolding range_texts
found c =
    range_found c.args.cmd.now c.position.result
    (position_from_yields_List (str_eq_ignore_ascii_case c.args.cmd.now) _ _ _ c.position.ensures.ran (YieldsList-from_slice range_texts (cc)) (λ x b q k. search (rules, tests)))

pub returns-in_err-index : goal.returns-in_err-index
returns-in_err-index c =
    c.from_residual.ensures ∙ sym c.in_err-index.was ∙ found (goal.at.returns-in_err-index c).After-position

pub returns : goal.returns
returns c = sym c.in_ok-index.was ∙ found (goal.at.returns c).After-position
