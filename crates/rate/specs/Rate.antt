-- The two f32 figures of the maintenance report: document 01, "PID table (manager)". Each step is one rounded operation of lib.Ieee.
use Rattle.std.specs.Prelude.{ℕ, ◌+◌, ◌*◌, ◌/◌, ◌%◌, min, max, pos, ◌==◌}
use lib.Ieee.{Float, binary32, of_int, add, mul, div}
use Rattle.base.specs.Choice.{pick}

-- The f32 nearest to a whole number.
abbrev pub f32 : ℕ → Float
f32 n = of_int binary32 (pos n)

-- The box refuses a count that would pass `mostCounted` and a time past `longest`, in milliseconds.
-- Every figure is first brought down to these, so that it has a value outside the box too.
abbrev pub most_counted : ℕ
most_counted = 16777215

abbrev pub longest : ℕ
longest = 16777215999

-- Whole seconds + nanoseconds / 1e9, of a time in milliseconds.
unfoldable pub seconds_of : ℕ → Float
seconds_of elapsed = add binary32 (f32 (elapsed / 1000)) (div binary32 (f32 (elapsed % 1000 * 1000000)) (f32 1000000000))

-- count / seconds. Maintenance runs after 2,000 or more; no time at all is taken for 1, so that no rate is an infinity or a NaN.
unfoldable pub rate_of : ℕ → ℕ → Float
unfolding seconds_of
rate_of count elapsed = div binary32 (f32 (min count most_counted)) (seconds_of (max 1 (min elapsed longest)))

-- 100 × hits / total, 0 if the total is 0.
unfoldable pub share_of : ℕ → ℕ → Float
share_of hits total = pick (total == 0) (f32 0) (div binary32 (mul binary32 (f32 100) (f32 hits)) (f32 total))

unfoldable pub hit_rate_of : ℕ → ℕ → Float
unfolding share_of
hit_rate_of hits misses = share_of (min hits most_counted) (min (hits + misses) most_counted)
