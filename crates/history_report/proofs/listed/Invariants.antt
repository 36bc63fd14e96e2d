use Rattle.writing.specs.Added.{Left}
use Rattle.history_report.specs.Texts.{rates_text, rates_in}
use Rattle.report.specs.Rates.{ratings}
use lib.ListN.{drop}
use Rattle.history_report.proofs.listed.Given as goal

abbrev pub invariant-loop-i : goal.invariant-loop-i
invariant-loop-i g l =
    Left g.row.N l.initial.out (rates_text (ratings (rates_in l.pids l.rates l.count))) l.out (rates_text (drop l.i (ratings (rates_in l.pids l.rates l.count))))
