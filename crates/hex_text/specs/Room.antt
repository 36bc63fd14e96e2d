-- What the reading of pairs says of a text and of the room that it finds.
use Rattle.std.specs.Prelude.{true, false, List, ◌≡◌, refl, ℕ, ◌/◌, ◌≤◌, ◌<◌, leb, length, Result, Ok, Err}
use Rattle.std.proofs.Common.{sym, ◌∙◌, leb-true, leb-false}
use Rattle.base.specs.Choice.{cases}
use Rattle.hex_text.specs.Pairs.{is_pairs, bytes_of}
use Rattle.hex_text.specs.declared.Unread.{Unread}
use Rattle.hex_text.specs.declared.Unread.TheVariants as unread

abbrev pub Says : ℕ → List ℕ → Result ℕ Unread → Type 0
Says room s (Ok n) = (is_pairs s ≡ true) × (n ≡ length s / 2) × (n ≤ room)
Says room s (Err unread.Bad) = is_pairs s ≡ false
Says room s (Err unread.Short) = (is_pairs s ≡ true) × (room < length s / 2)

says : (room : ℕ) (s : List ℕ) → Says room s (bytes_of room s)
unfolding bytes_of
says room s =
    cases _ (is_pairs s)
    (λ e. rw e (cases _ (leb (length s / 2) room)
    (λ f. rw f (e, refl, leb-true (length s / 2) room f))
    (λ f. rw f (e, leb-false (length s / 2) room f))))
    (λ e. rw e e)

module _ (room : ℕ) (s : List ℕ) (b : Result ℕ Unread) (e : b ≡ bytes_of room s) where
  pub count_says : (n : ℕ) → b ≡ Ok n → (is_pairs s ≡ true) × (n ≡ length s / 2) × (n ≤ room)
  count_says n f = rw (sym e ∙ f) at (says room s)

  pub bad_says : b ≡ Err unread.Bad → is_pairs s ≡ false
  bad_says f = rw (sym e ∙ f) at (says room s)

  pub short_says : b ≡ Err unread.Short → (is_pairs s ≡ true) × (room < length s / 2)
  short_says f = rw (sym e ∙ f) at (says room s)
