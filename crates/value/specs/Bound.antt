-- How large a value can be: its width in bytes bounds it.
use Rattle.std.specs.Prelude.{Option, List, [], ◌∷◌, ◌≡◌, ℕ, suc, ◌+◌, ◌*◌, ◌^◌, ◌<◌, ◌≤◌, length, take, drop}
use Rattle.std.proofs.Common.{arith, lt_of_lt_of_le, zero-lt-suc, length-take}
use Rattle.std.proofs.Math.Nat.{pow-le-pow_right}
use Rattle.base.specs.Bytes.{Bytes, bytes_first, bytes_rest, bytes_take, bytes_drop}
use Rattle.pid.specs.Lengths.{data_length_of}
use Rattle.reply.specs.Rules.{first_length_of, first_line}
use Rattle.reply.specs.declared.Reply.{Reply}
use Rattle.value.specs.Rules.{head, width_of, fold_of, data_of, value_by, value_of}
use Rattle.value.specs.Laws.{folds}

fold_below : (bs : List ℕ) (acc k : ℕ) → Bytes bs → acc < 256 ^ k → fold_of acc bs < 256 ^ (k + length bs)
unfolding fold_of
fold_below [] acc k h l = let e : k + 0 ≡ k = omega arith in rw e l
fold_below (b ∷ bs) acc k h l =
    let e : k + suc (length bs) ≡ (k + 1) + length bs = omega arith in
    rw e (fold_below bs (acc * 256 + b) (k + 1) (bytes_rest h) (folds acc b k l (bytes_first h)))

by_below : (l : Option ℕ) (r : Reply) → Bytes r.bytes → value_by l r < 256 ^ width_of l
unfolding value_by data_of first_line
by_below l r h =
    let line = drop head (take (first_length_of r) r.bytes) in
    let small = bytes_take (width_of l) line (bytes_drop head _ (bytes_take (first_length_of r) r.bytes h)) in
    let few : 0 + length (take (width_of l) line) ≤ width_of l = rw length-take (omega arith) in
    lt_of_lt_of_le (fold_below (take (width_of l) line) 0 0 small (omega arith)) (pow-le-pow_right (zero-lt-suc 255) few)

pub value_below : (p : ℕ) (r : Reply) → Bytes r.bytes → value_of p r < 256 ^ width_of (data_length_of p)
unfolding value_of
value_below p r h = by_below (data_length_of p) r h
