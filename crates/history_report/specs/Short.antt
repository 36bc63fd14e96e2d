-- How long a report is at most.
use Rattle.std.specs.Prelude.{List, [], ◌∷◌, ◌≡◌, ℕ, ◌*◌, ◌≤◌, Float, length}
use Rattle.std.proofs.Common.{sym, ◌∙◌, arith, length-append, length-take}
use Rattle.std.specs.Float.{binary32}
use Rattle.std.specs.Float.Ieee.{to_bits}
use Rattle.base.specs.Choice.{cases}
use Rattle.report.specs.Rates.{ratings}
use Rattle.report.specs.Report.{no_report}
use Rattle.report.specs.Summary.{report_in, rated_length, blank_length}
use Rattle.report.specs.declared.Rated.{Rated}
use Rattle.report.specs.declared.Report.{Report}
use Rattle.report.specs.declared.metrics.CacheMetrics.{CacheMetrics}
use Rattle.report.specs.declared.summary.Summary.{Summary}
use Rattle.writing.specs.Number.{decimal_short}
use Rattle.writing_pairs.specs.Short.{pid_length, word_length}
use Rattle.history_report.specs.Texts.{metrics_text, bits_text, rate_text, rates_text, report_text}

metrics_short : (m : CacheMetrics) → length (metrics_text m) ≤ 62
unfolding metrics_text
metrics_short m =
    simp length-append (omega (arith, decimal_short m.hits, decimal_short m.misses, decimal_short m.wait))

bits_length : (x : Float) → length (bits_text x) ≡ 8
unfolding bits_text
bits_length x = word_length (to_bits binary32 x)

rates_short : (rs : List Rated) → length (rates_text rs) ≤ length rs * 12
unfolding rates_text rate_text
rates_short [] = omega arith
rates_short (r ∷ rs) =
    simp length-append (omega (arith, pid_length r.pid, bits_length r.rate, rates_short rs))

pub report_short : (r : Report) → length r.rates.list ≤ 256 → length (report_text r) ≤ 3151
unfolding report_text ratings
report_short r h =
    cases _ r.ran
    (λ e. rw e (simp length-append (omega (
      arith,
      metrics_short r.metrics,
      bits_length r.hitrate,
      rates_short (ratings r.rates),
      length-take r.rates.count r.rates.list,
    ))))
    (λ e. rw e (omega arith))

-- Lent numbers list no more than there are.
pub listed_most : (ps : List ℕ) (rs : List Float) (s : Summary) → length ps ≡ 256 → length rs ≡ 256 → length (report_in ps rs s).rates.list ≤ 256
unfolding report_in no_report
listed_most ps rs s e f =
    cases _ s.ran (λ r. rw (r, rated_length ps rs (e ∙ sym f)) (omega arith)) (λ r. rw (r, blank_length) (omega arith))
