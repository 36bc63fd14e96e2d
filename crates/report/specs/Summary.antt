-- A report as a call hands it on: its list as lent numbers, and the small rest.
use Rattle.std.specs.Prelude.{true, false, ◌≡◌, pos, Float, length, get_or, set, take}
use mathlib.Core.List.{List, [], ◌∷◌, map}
use Rattle.std.proofs.Math.Path.{refl}
use Rattle.std.proofs.Common.{ap, sym, ◌∙◌, arith, add-one, length-set, take-suc, take-suc-set, take_all}
use Prim.Native.Nat.{ℕ, zero, suc, ◌+◌, ◌<◌, ◌≤◌}
use Rattle.std.specs.Float.{fin}
use Rattle.std.proofs.lemmas.List.{length-replicate}
use Rattle.std.proofs.Math.ListN.{get_or-map}
use Rattle.base.specs.Choice.{pick, cases}
use Rattle.report.specs.Metrics.{no_metrics}
use Rattle.report.specs.Rates.{no_rates}
use Rattle.report.specs.Report.{no_report}
use Rattle.report.specs.declared.Rated.{Rated}
use Rattle.report.specs.declared.Report.{Report}
use Rattle.report.specs.declared.summary.Summary.{Summary}

unfoldable pub no_summary : Summary
no_summary = record { ran = false; count = 0; metrics = no_metrics; hitrate = fin false 0 (pos 0) }

-- The PIDs and their rates, side by side.
unfoldable pub rated_in : List ℕ → List Float → List Rated
rated_in [] rs = []
rated_in (p ∷ ps) [] = []
rated_in (p ∷ ps) (r ∷ rs) = record { pid = p; rate = r } ∷ rated_in ps rs

-- THE REPORT that the numbers and the summary are: none where maintenance did not run, whatever the numbers are.
unfoldable pub report_in : List ℕ → List Float → Summary → Report
report_in ps rs s =
    pick s.ran
    (record { ran = true; rates = record { list = rated_in ps rs; count = s.count }; metrics = s.metrics; hitrate = s.hitrate })
    no_report

pub none_in : (ps : List ℕ) (rs : List Float) → report_in ps rs no_summary ≡ no_report
unfolding report_in no_summary
none_in ps rs = refl

pub not_run : (ps : List ℕ) (rs : List Float) (s : Summary) → s.ran ≡ false → report_in ps rs s ≡ no_report
unfolding report_in
not_run ps rs s e = rw e

-- It ran where the summary says so.
pub ran_in : (ps : List ℕ) (rs : List Float) (s : Summary) → (report_in ps rs s).ran ≡ s.ran
unfolding report_in no_report
ran_in ps rs s = cases _ s.ran (λ e. rw e) (λ e. rw e)

-- ---- a list written place by place

-- The first i places have what the list is to have.
abbrev pub Filled : {A : Type 0} → List A → List A → ℕ → Type 0
Filled whole xs i = (length xs ≡ length whole) × (take i xs ≡ take i whole)

module _ {A : Type 0} (whole xs : List A) (i : ℕ) where
  pub filled_next : (x d : A) → i < length whole → x ≡ get_or whole i d → Filled whole xs i → Filled whole (set xs i x) (i + 1)
  filled_next x d h e f =
      let n = f.0 in
      (simp length-set n, rw (add-one i, take-suc-set xs i x (omega arith), take-suc whole i d h, f.1, e))

  pub filled_end : length whole ≤ i → Filled whole xs i → xs ≡ whole
  filled_end h f = let n = f.0 in sym (take_all i xs (omega arith)) ∙ f.1 ∙ take_all i whole h

-- ---- what was handed on is had back

abbrev pub pids_of : List Rated → List ℕ
pids_of = map (λ (x : Rated). x.pid)

abbrev pub rates_of : List Rated → List Float
rates_of = map (λ (x : Rated). x.rate)

rated_back : (xs : List Rated) → rated_in (pids_of xs) (rates_of xs) ≡ xs
unfolding rated_in
rated_back [] = refl
rated_back (x ∷ xs) = ap (λ (t : List Rated). x ∷ t) (rated_back xs)

-- A report that ran, put into the numbers.
pub handed : (r : Report) (ps : List ℕ) (rs : List Float) → r.ran ≡ true → ps ≡ pids_of r.rates.list → rs ≡ rates_of r.rates.list
    → report_in ps rs (record { ran = true; count = r.rates.count; metrics = r.metrics; hitrate = r.hitrate }) ≡ r
unfolding report_in
handed r ps rs e f g =
    rw (f, g, rated_back r.rates.list, ← e)

module _ (d : Rated) where
  pub pids_at : (xs : List Rated) (i : ℕ) → get_or (pids_of xs) i d.pid ≡ (get_or xs i d).pid
  pids_at xs i = get_or-map (λ (x : Rated). x.pid) xs i d

  pub rates_at : (xs : List Rated) (i : ℕ) → get_or (rates_of xs) i d.rate ≡ (get_or xs i d).rate
  rates_at xs i = get_or-map (λ (x : Rated). x.rate) xs i d

  pub rated_at : (ps : List ℕ) (rs : List Float) (i : ℕ) → i < length ps → i < length rs
      → record { pid = get_or ps i d.pid; rate = get_or rs i d.rate } ≡ get_or (rated_in ps rs) i d
  unfolding rated_in
  rated_at [] rs i h k = absurd (omega arith)
  rated_at (p ∷ ps) [] i h k = absurd (omega arith)
  rated_at (p ∷ ps) (r ∷ rs) zero h k = refl
  rated_at (p ∷ ps) (r ∷ rs) (suc i) h k = rated_at ps rs i (omega arith) (omega arith)

pub blank_length : length no_rates.list ≡ 256
unfolding no_rates
blank_length = length-replicate {A = Rated} 256 (record { pid = 0; rate = fin false 0 (pos 0) })

pub rated_length : (ps : List ℕ) (rs : List Float) → length ps ≡ length rs → length (rated_in ps rs) ≡ length ps
unfolding rated_in
rated_length [] rs h = refl
rated_length (p ∷ ps) [] h = absurd (omega arith)
rated_length (p ∷ ps) (r ∷ rs) h = ap suc (rated_length ps rs (omega arith))

-- The report of a summary that ran.
pub report_is : (ps : List ℕ) (rs : List Float) (s : Summary) (xs : List Rated) → s.ran ≡ true → xs ≡ rated_in ps rs
    → record { ran = true; rates = record { list = xs; count = s.count }; metrics = s.metrics; hitrate = s.hitrate } ≡ report_in ps rs s
unfolding report_in
report_is ps rs s xs e f = rw (e, f)
