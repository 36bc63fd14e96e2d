-- The report of a maintenance: history-format.md, "Calls of the box and their answers".
use Rattle.std.specs.Prelude.{List, [], ◌∷◌, ◌++◌, ℕ, Float}
use Rattle.std.specs.Float.{binary32}
use Rattle.std.specs.Float.Ieee.{to_bits}
use Rattle.base.specs.Choice.{pick}
use Rattle.base.specs.Letters.{letter, letters}
use Rattle.numeral.specs.Decimal.{decimal_text}
use Rattle.report.specs.Rates.{ratings}
use Rattle.report.specs.Summary.{rated_in}
use Rattle.report.specs.declared.Rated.{Rated}
use Rattle.report.specs.declared.Rates.{Rates}
use Rattle.report.specs.declared.Report.{Report}
use Rattle.report.specs.declared.metrics.CacheMetrics.{CacheMetrics}
use Rattle.writing_pairs.specs.Pairs.{pid_text, word_text}

-- "` report HITS MISSES WAITED HITRATE RATE..`, with WAITED the total wait, HITRATE the f32's 32 bits as eight hex
-- digits, and each RATE as `PID,BITS` in the report's order, BITS likewise"
unfoldable pub metrics_text : CacheMetrics → List ℕ
metrics_text m = decimal_text m.hits ++ (letter " " ∷ (decimal_text m.misses ++ (letter " " ∷ decimal_text m.wait)))

unfoldable pub bits_text : Float → List ℕ
bits_text x = word_text (to_bits binary32 x)

unfoldable pub rate_text : Rated → List ℕ
rate_text r = letter " " ∷ (pid_text r.pid ++ (letter "," ∷ bits_text r.rate))

unfoldable pub rates_text : List Rated → List ℕ
rates_text [] = []
rates_text (r ∷ rs) = rate_text r ++ rates_text rs

-- The rates that the lent numbers are.
abbrev pub rates_in : List ℕ → List Float → ℕ → Rates
rates_in ps rs n = record { list = rated_in ps rs; count = n }

-- "Where a manager call ran maintenance, its answer has a report behind it".
unfoldable pub report_text : Report → List ℕ
report_text r =
    pick r.ran
    (letters " report " ++ (metrics_text r.metrics ++ (letter " " ∷ (bits_text r.hitrate ++ rates_text (ratings r.rates)))))
    []
