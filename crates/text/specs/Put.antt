-- Texts put one behind the other into lent memory.
use Rattle.std.specs.Prelude.{List, ◌≡◌, ℕ, ◌+◌, ◌<◌, ◌≤◌, leb, length}
use Rattle.std.proofs.Common.{le-leb}
use Rattle.std.proofs.lemmas.Bool.{lt-leb}
use Rattle.base.specs.Choice.{pick}
use Rattle.base.specs.Write.{over}

-- The text s written from the place at, where it has room; else the memory as it was.
unfoldable pub put_of : List ℕ → ℕ → List ℕ → List ℕ
put_of d at s = pick (leb (at + length s) (length d)) (over d at s) d

-- The place behind it; the same place where it has no room.
unfoldable pub put_end : List ℕ → ℕ → List ℕ → ℕ
put_end d at s = pick (leb (at + length s) (length d)) (at + length s) at

module _ (d : List ℕ) (at : ℕ) (s : List ℕ) where
  pub put_full : length d < at + length s → put_of d at s ≡ d
  unfolding put_of
  put_full h = rw (lt-leb _ _ h)

  pub end_full : length d < at + length s → put_end d at s ≡ at
  unfolding put_end
  end_full h = rw (lt-leb _ _ h)

  pub put_fits : at + length s ≤ length d → put_of d at s ≡ over d at s
  unfolding put_of
  put_fits h = rw (le-leb _ _ h)

  pub end_fits : at + length s ≤ length d → put_end d at s ≡ at + length s
  unfolding put_end
  end_fits h = rw (le-leb _ _ h)
