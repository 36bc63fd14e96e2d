-- `lines::answers` meets its contract.
use Rattle.lines.specs.Laws.{answers_none, answers_some}
use Rattle.std.proofs.Common.{sym, eqb-true}
use Rattle.std.proofs.lemmas.Bool.{eqb-false}
use Rattle.lines.proofs.answers.Goals as goal

pub returns-then-is_empty : goal.returns-then-is_empty
returns-then-is_empty c = sym (answers_none _ (eqb-true _ _ (sym c.if-is_empty.ensures)))

pub returns : goal.returns
returns c = sym (answers_some _ (eqb-false _ _ (sym c.if-is_empty.ensures)))
