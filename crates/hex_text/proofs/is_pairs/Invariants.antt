use Rattle.std.proofs.Common.{◌≡◌, ◌&&◌, ltb, drop}
use Rattle.hex_text.specs.Pairs.{is_pairs, hexes}
use Rattle.hex_text.proofs.is_pairs.Given as goal

abbrev pub invariant-loop-b : goal.invariant-loop-b
invariant-loop-b l = is_pairs l.s ≡ (ltb l.highest 16 && hexes (drop l.b-index l.s))
