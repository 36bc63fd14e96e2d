-- What the manager has counted is what is read: its events, the end of a call, and the report of a maintenance.
use Rattle.std.specs.Prelude.{None, Option, Some, true, false, ◌&&◌, List, [], ◌∷◌, ◌≡◌, refl, ℕ, ◌+◌, ◌-◌, ◌*◌, ◌<◌, ◌≤◌, eqb, ltb}
use Rattle.std.proofs.Math.Path.{ap}
use Rattle.std.proofs.Common.{sym, ◌∙◌, eq-eqb, leb-true, leb-false}
use native.Mathlib.Omega.{arith}
use Rattle.agreement.specs.Claim.{Reading}
use Rattle.base.specs.Choice.{pick, one, cases, false_true}
use Rattle.base.specs.Count.{more_is}
use Rattle.base.specs.Times.{times}
use Rattle.control.specs.declared.outbox.Outbox.{Outbox}
use Rattle.manager.specs.Calls.{registering, maintenance, due_of, maintain_of, finish_of, after as noting}
use Rattle.manager.specs.Cases.{finish_due, finish_not_due}
use Rattle.manager.specs.Reported.{report_sorted, report_exact, report_right}
use Rattle.manager.specs.declared.Event.{Event as ManagerEvent}
use Rattle.manager.specs.declared.Event.TheVariants as event
use Rattle.manager.specs.declared.Manager.{Manager}
use Rattle.passes.specs.Laws.{through_length}
use Rattle.passes.specs.Sweep.{through, upkeep}
use Rattle.passes.specs.declared.Terms.{Terms}
use Rattle.rate.specs.Bound.{rate_within}
use Rattle.rate.specs.Hits.{hit_rate_none, hit_rate_within}
use Rattle.rate.specs.Rate.{f32, most_counted, hit_rate_of}
use Rattle.rate.specs.Within.{Within}
use Rattle.report.specs.Metrics.{noted_of, overlong_of, full_of, refused_of}
use Rattle.report.specs.Rates.{listed_of, ratings}
use Rattle.report.specs.Report.{no_report, report_of}
use Rattle.report.specs.Sorted.{Each, Right, pids}
use Rattle.report.specs.declared.Rated.{Rated}
use Rattle.report.specs.declared.metrics.CacheMetrics.{CacheMetrics}
use Rattle.obd2.specs.Keeps.{after}
use Rattle.obd2.specs.Refusals.{latest}
use Rattle.figures.specs.Claim.{Tally, none_since, known, hit, miss, with_one, Figures}
use Rattle.figures.specs.Counts.{entry, Counts, Counted, registered_table, upkeep_table, cleared_table, maintained_table, set_whole, waiting_table, consumed_table}

-- ---- events

-- The metrics of a Consumed that is not refused.
module _ (x : CacheMetrics) (h : x.hits + x.misses < most_counted) where
  noted_hits : (w : Option ℕ) → (noted_of x w).hits ≡ x.hits + hit w
  unfolding noted_of
  noted_hits None = omega (arith, more_is x.hits)
  noted_hits (Some wait) = omega arith

  noted_misses : (w : Option ℕ) → (noted_of x w).misses ≡ x.misses + miss w
  unfolding noted_of
  noted_misses None = omega arith
  noted_misses (Some wait) = omega (arith, more_is x.misses)

one_each : (w : Option ℕ) → hit w + miss w ≡ 1
one_each None = refl
one_each (Some wait) = refl

not_full : (x : CacheMetrics) (w : Option ℕ) → refused_of x w ≡ false → x.hits + x.misses < most_counted
unfolding refused_of full_of
not_full x w e = cases _ (overlong_of w) (λ a. false_true (sym (rw a at e))) (λ a. leb-false 16777215 (x.hits + x.misses) (rw a at e))

module _ (m : Manager) (k : Tally) (g : Counted m k) (t : Terms) where
  pub changed_counted : Counted (noting m t event.ProfilePidsChanged) k
  unfolding noting
  changed_counted = record {
    whole = through_length t registering m.table ∙ g.whole;
    last = g.last;
    counts = λ q. (registered_table t m.table q (g.blank q)).count ∙ g.counts q;
    blank = λ q. (registered_table t m.table q (g.blank q)).blank;
    hits = g.hits;
    misses = g.misses;
    few = g.few;
    each = g.each;
  }

  pub waiting_counted : (p : ℕ) → Counted (noting m t (event.Waiting p)) k
  unfolding noting
  waiting_counted p = record {
    whole = set_whole _ p m.table ∙ g.whole;
    last = g.last;
    counts = λ q. (waiting_table t p m.table q (g.blank q)).count ∙ g.counts q;
    blank = λ q. (waiting_table t p m.table q (g.blank q)).blank;
    hits = g.hits;
    misses = g.misses;
    few = g.few;
    each = g.each;
  }

-- A Consumed, of which the manager that is read knows whether its PID is known.
module _ (r : Reading) (k : Tally) (g : Counted r.manager k) (t : Terms) where
  pub consumed_counted : (p : ℕ) (w : Option ℕ) → refused_of r.manager.metrics w ≡ false → Counted (noting r.manager t (event.Consumed p w)) (with_one r p w k)
  unfolding noting
  consumed_counted p w e =
      let m = r.manager in
      let h = not_full m.metrics w e in
      let a = g.hits in
      let b = g.misses in
      let n = one_each w in
      let own : (q : ℕ) → Counts t p m.table q (g.blank q) (entry (noting m t (event.Consumed p w)).table q)
      = λ q. consumed_table t p m.table q (g.blank q) w (let c = g.counts q in let d = g.each q in omega arith) in
      record {
        whole = set_whole _ p m.table ∙ g.whole;
        last = g.last;
        counts = λ q. (own q).count ∙ ap (λ (x : ℕ). x + one (eqb p q && known r p)) (g.counts q);
        blank = λ q. (own q).blank;
        hits = noted_hits m.metrics h w ∙ ap (λ (x : ℕ). x + hit w) a;
        misses = noted_misses m.metrics h w ∙ ap (λ (x : ℕ). x + miss w) b;
        few = omega arith;
        each = λ q. let d = g.each q in cases _ (eqb p q && known r p) (λ f. rw f (omega arith)) (λ f. rw f (omega arith));
      }

-- No event moves the last maintenance.
pub noting_last : (m : Manager) (t : Terms) (e : ManagerEvent) → (noting m t e).last ≡ m.last
unfolding noting
noting_last m t event.ProfilePidsChanged = refl
noting_last m t (event.Waiting p) = refl
noting_last m t (event.Consumed p w) = refl
noting_last m t event.Nothing = refl

-- ---- the end of a call

module _ (m : Manager) (k : Tally) (g : Counted m k) (o : Outbox) (t : Terms) where
  pub finish_counted : Counted (finish_of m o t).manager (pick (finish_of m o t).report.ran (none_since t.now) k)
  unfolding maintain_of report_of no_report
  finish_counted = cases _ (due_of m.last t.now)
      (λ e. rw (finish_due m o t e) (record {
        whole = through_length t maintenance m.table ∙ g.whole;
        last = refl;
        counts = λ q. cleared_table t m.table q;
        blank = λ q z. cleared_table t m.table q;
        hits = refl;
        misses = refl;
        few = omega arith;
        each = λ q. omega arith;
      }))
      (λ e. rw (finish_not_due m o t e) g)

-- Each of a list is in it.
each_in : (xs ys : List Rated) → ((q : ℕ) → times q (pids xs) ≤ times q (pids ys)) → Each (λ (y : Rated). 0 < times y.pid (pids ys)) xs
unfolding Each pids times
each_in [] ys h = tt
each_in (x ∷ xs) ys h = (
  (let a = rw (eq-eqb x.pid x.pid refl) at (h x.pid) in omega arith),
  each_in xs ys (λ q. let a = h q in omega arith),
)

each_two : (P Q R : Rated → Type 0) → ((y : Rated) → P y → Q y → R y) → (xs : List Rated) → Each P xs → Each Q xs → Each R xs
unfolding Each
each_two P Q R f [] a b = tt
each_two P Q R f (x ∷ xs) a b = (f x a.0 b.0, each_two P Q R f xs a.1 b.1)

-- The report of a call whose maintenance is due.
module _ (m : Manager) (k : Tally) (g : Counted m k) (o : Outbox) (t : Terms) (e : due_of m.last t.now ≡ true) (late : t.now ≤ latest) where
  since : t.now - m.last ≡ t.now - k.since
  since = ap (λ (x : ℕ). t.now - x) g.last

  long : 2000 ≤ t.now - k.since
  unfolding due_of
  long = rw g.last at (leb-true 2000 (t.now - m.last) e)

  -- What is listed is tracked, and was counted.
  tracked_listed : (q : ℕ) → one (listed_of (entry (through t upkeep m.table) q)) ≡ one ((entry (finish_of m o t).manager.table q).tracked && ltb 0 (k.counted q))
  unfolding listed_of maintain_of
  tracked_listed q =
      rw (finish_due m o t e, maintained_table t m.table q)
      (cases _ (entry (through t upkeep m.table) q).tracked
      (λ a. rw (a, upkeep_table t m.table q (g.blank q) a, g.counts q))
      (λ a. rw a))

  right_within : (y : Rated) → 0 < times y.pid (pids (ratings (finish_of m o t).report.rates)) → Right (through t upkeep m.table) (t.now - m.last) y
      → Within 4194304 y.rate (1000 * k.counted y.pid) (t.now - k.since)
  unfolding listed_of
  right_within y h r =
      let x = report_exact m o t g.whole e y.pid in
      let z = entry (through t upkeep m.table) y.pid in
      let f = g.each y.pid in
      let n = g.few in
      let d = long in
      cases _ z.tracked
      (λ a. let c : z.count ≡ k.counted y.pid = upkeep_table t m.table y.pid (g.blank y.pid) a ∙ g.counts y.pid in
      rw (r, c, since) (rate_within (k.counted y.pid) (t.now - k.since) (omega arith) (omega arith) (omega arith)))
      (λ a. absurd (let v = rw a at x in omega arith))

  none_asked : k.hits + k.misses ≡ 0 → hit_rate_of k.hits k.misses ≡ f32 0
  none_asked h = let a : k.hits ≡ 0 = omega arith in let b : k.misses ≡ 0 = omega arith in rw (a, b) hit_rate_none

  pub report_figures : (after : Reading) → after.manager ≡ (finish_of m o t).manager → Figures k after t.now (finish_of m o t).report
  unfolding maintain_of report_of
  report_figures after i =
      let rs = ratings (finish_of m o t).report.rates in
      record {
        elapsed = long;
        listed = λ q. rw i (report_exact m o t g.whole e q ∙ tracked_listed q);
        sorted = report_sorted m o t g.whole e;
        rates = each_two _ _ _ right_within rs (each_in rs rs (λ q. omega arith)) (report_right m o t g.whole e);
        hits = rw (finish_due m o t e) g.hits;
        misses = rw (finish_due m o t e) g.misses;
        hit_rate = λ h. rw (finish_due m o t e) (rw (g.hits, g.misses) (hit_rate_within k.hits k.misses h g.few));
        no_hit_rate = λ h. rw (finish_due m o t e) (rw (g.hits, g.misses) (none_asked h));
        few = g.few;
        counts = g.each;
      }
