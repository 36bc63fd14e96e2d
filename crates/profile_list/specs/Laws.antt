-- The array of a lent list, place by place.
use Rattle.std.specs.Prelude.{drop, true, ◌≡◌, List, ◌++◌, ℕ, ◌-◌, ◌<◌, ◌≤◌, length, take}
use Rattle.std.proofs.Common.{◌∙◌, ap, le-leb}
use Rattle.std.proofs.Math.Seq.{take-length, take-append_seam}
use Rattle.std.proofs.lemmas.List.{drop-replicate}
use Rattle.std.proofs.lemmas.Bool.{lt-leb}
use Rattle.config.specs.InForce.{in_force}
use Rattle.config.specs.declared.Profile.{Profile}
use Rattle.profile_check.specs.Check.{bad_profiles}
use Rattle.profile_list.specs.Copied.{copied_of, count_of, kept_of, blanks}

pub kept_whole : (n : ℕ) → n ≤ 16 → kept_of n ≡ n
unfolding kept_of
kept_whole n h = rw (le-leb n 16 h)

pub kept_none : (n : ℕ) → 16 < n → kept_of n ≡ 0
unfolding kept_of
kept_none n h = rw (lt-leb n 16 h)

-- The count of a list that the array takes whole, and of a longer one.
pub count_whole : (n : ℕ) → n ≤ 16 → count_of n ≡ n
unfolding count_of
count_whole n h = rw (le-leb n 16 h)

pub count_over : (n : ℕ) → 16 < n → count_of n ≡ 17
unfolding count_of
count_over n h = rw (lt-leb n 16 h)

-- The array of each.
pub copied_over : (ps : List Profile) → 16 < length ps → record { list = blanks 16; count = 17 } ≡ copied_of ps
unfolding copied_of
copied_over ps h = rw (count_over (length ps) h, kept_none (length ps) h)

pub copied_whole : (ps : List Profile) → length ps ≤ 16 → record { list = ps ++ drop (length ps) (blanks 16); count = length ps } ≡ copied_of ps
unfolding copied_of
copied_whole ps h = rw (count_whole (length ps) h, kept_whole (length ps) h, take-length ps, drop-replicate)

-- A list that the array takes whole is in force as it was lent.
pub all_in_force : (ps : List Profile) → length ps ≤ 16 → in_force (copied_of ps) ≡ ps
unfolding in_force copied_of
all_in_force ps h =
    let n = length ps in
    ap (λ (m : ℕ). take m (take (kept_of n) ps ++ blanks (16 - kept_of n))) (count_whole n h)
    ∙ ap (λ (m : ℕ). take n (take m ps ++ blanks (16 - m))) (kept_whole n h)
    ∙ ap (λ (l : List Profile). take n (l ++ blanks (16 - n))) (take-length ps)
    ∙ take-append_seam ps (blanks (16 - n))

-- Refusal 2: "over 16 profiles".
pub longer_refused : (ps : List Profile) → 16 < length ps → bad_profiles (copied_of ps) ≡ true
unfolding copied_of bad_profiles
longer_refused ps h = rw (count_over (length ps) h)
