-- Laws of the definitions of `Texts`, over the lent numbers of a report.
use Rattle.std.specs.Prelude.{true, false, List, [], ◌∷◌, ◌++◌, ◌≡◌, ℕ, suc, ◌+◌, ◌<◌, ◌≤◌, min, Float, length, take}
use Rattle.std.proofs.Common.{sym, ◌∙◌, arith, drop_of_length-le, get_or-take}
use Rattle.std.proofs.Math.Numerals.{add-one}
use Rattle.std.proofs.Math.ListN.{get_or, drop, length-take}
use Rattle.std.proofs.Math.Seq.{drop-cons}
use Rattle.base.specs.Letters.{letter, letters}
use Rattle.report.specs.Rates.{ratings}
use Rattle.report.specs.Report.{no_report}
use Rattle.report.specs.Summary.{rated_in, report_in, rated_at, rated_length}
use Rattle.report.specs.declared.Rated.{Rated}
use Rattle.report.specs.declared.Rates.{Rates}
use Rattle.report.specs.declared.summary.Summary.{Summary}
use Rattle.history_report.specs.Texts.{metrics_text, bits_text, rate_text, rates_text, report_text, rates_in}

-- Rates from the front.
module _ (r : Rates) (full : length r.list ≡ 256) (i : ℕ) where
  rates_next : (d : Rated) → i < min r.count 256 → rates_text (drop i (ratings r)) ≡ rate_text (get_or r.list i d) ++ rates_text (drop (i + 1) (ratings r))
  unfolding rates_text ratings
  rates_next d h =
      let n = length-take r.count r.list in
      let e : drop i (take r.count r.list) ≡ get_or r.list i d ∷ drop (suc i) (take r.count r.list)
      = drop-cons (take r.count r.list) i d (omega arith) ∙ rw (get_or-take r.count r.list i d (omega arith)) in
      rw (e, add-one i)

  rates_end : min r.count 256 ≤ i → rates_text (drop i (ratings r)) ≡ []
  unfolding rates_text ratings
  rates_end h =
      let n = length-take r.count r.list in
      rw (drop_of_length-le (take r.count r.list) {i = i} (omega arith))

module _ (ps : List ℕ) (rs : List Float) (n : ℕ) (psn : length ps ≡ 256) (rsn : length rs ≡ 256) (i : ℕ) where
  whole : length (rated_in ps rs) ≡ 256
  whole = rated_length ps rs (psn ∙ sym rsn) ∙ psn

  pub rated_next : (d : Rated) → i < min n 256
      → rates_text (drop i (ratings (rates_in ps rs n))) ≡ rate_text (record { pid = get_or ps i d.pid; rate = get_or rs i d.rate }) ++ rates_text (drop (i + 1) (ratings (rates_in ps rs n)))
  rated_next d h = rw (rated_at d ps rs i (omega arith) (omega arith)) (rates_next (rates_in ps rs n) whole i d h)

  pub rated_end : min n 256 ≤ i → rates_text (drop i (ratings (rates_in ps rs n))) ≡ []
  rated_end h = rates_end (rates_in ps rs n) whole i h

-- The report that they are with the summary.
module _ (ps : List ℕ) (rs : List Float) (s : Summary) where
  pub report_none : s.ran ≡ false → report_text (report_in ps rs s) ≡ []
  unfolding report_text report_in no_report
  report_none e = rw e

  pub report_some : s.ran ≡ true
      → report_text (report_in ps rs s)
      ≡ letters " report " ++ (metrics_text s.metrics ++ (letter " " ∷ (bits_text s.hitrate ++ rates_text (ratings (rates_in ps rs s.count)))))
  unfolding report_text report_in
  report_some e = rw e
