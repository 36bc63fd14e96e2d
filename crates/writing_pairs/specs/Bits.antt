-- A float's bits: of the patterns that a NaN may have, the one that the logic has for it.
use Rattle.std.specs.Prelude.{true, false, not, ◌≡◌, T, Float}
use Rattle.std.proofs.Common.{sym, ◌∙◌, subst}
use Rattle.std.specs.Float.{nan, inf, fin, binary32}
use Rattle.std.specs.Float.Ieee.{to_bits, is_nan, ne}
use Rattle.std.specs.Float.Ieee.Compare.{differs_from_itself, nan_differs}
use Rattle.base.specs.Choice.{false_true}

pub bits_nan : (x : Float) → ne x x ≡ true → 2143289344 ≡ to_bits binary32 x
unfolding to_bits
bits_nan x e = rw (differs_from_itself x (subst T (sym e) tt))

pub no_nan : (x : Float) → ne x x ≡ false → T (not (is_nan x))
unfolding is_nan
no_nan nan e = false_true (sym e ∙ nan_differs)
no_nan (inf s) e = tt
no_nan (fin s m x) e = tt
