-- Hits, misses and waits, of known PIDs and unknown ones; and refusal 4.
use Rattle.std.specs.Prelude.{None, Option, Some, Bool, false, ◌||◌, ℕ, ◌+◌, ◌-◌, ltb, leb}
use Rattle.base.specs.Choice.{pick}
use Rattle.base.specs.Count.{more_of}
use Rattle.report.specs.declared.metrics.CacheMetrics.{CacheMetrics}

abbrev pub no_metrics : CacheMetrics
no_metrics = record { hits = 0; misses = 0; wait = 0 }

-- A total stops at the largest number of its 64 bits.
unfoldable pub longer_by : ℕ → ℕ → ℕ
longer_by total wait = pick (leb wait (18446744073709551615 - total)) (total + wait) 18446744073709551615

unfoldable pub noted_of : CacheMetrics → Option ℕ → CacheMetrics
noted_of m None = record { hits = more_of m.hits; misses = m.misses; wait = m.wait }
noted_of m (Some time) = record { hits = m.hits; misses = more_of m.misses; wait = longer_by m.wait time }

-- Refusal 4: a wait over 60,000, or hits + misses at 16,777,215.
unfoldable pub overlong_of : Option ℕ → Bool
overlong_of None = false
overlong_of (Some time) = ltb 60000 time

unfoldable pub full_of : CacheMetrics → Bool
full_of m = leb 16777215 (m.hits + m.misses)

unfoldable pub refused_of : CacheMetrics → Option ℕ → Bool
refused_of m w = overlong_of w || full_of m
