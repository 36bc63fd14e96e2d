-- `history_replies::place` meets its contract.
use native.Mathlib.Omega.{arith}
use mathlib.Core.Path.{◌≡◌, ap, ◌∙◌}
use Prim.Native.Nat.{ℕ, ◌-◌}
use lib.ListN.{length, take, drop, length-take, length-drop}
use Rattle.hex_text.specs.Pairs.{bytes_of}
use Rattle.history_replies.specs.Replies.{placed, lent_put}
use Rattle.history_replies.proofs.place.Goals as goal

pub returns : goal.returns
returns c =
    let w = c.well_formed.0.1.0.1 in
    let n : length (take (64 - c.args.at) (drop c.args.at c.args.bytes)) ≡ 64 - c.args.at = simp (length-take, length-drop) (omega arith) in
    placed _ _ _ _ _
    (lent_put c.args.bytes c.args.at c.args.s.now c.read-read.new.out c.requires w c.read-read.ensures.out_after)
    (c.read-read.ensures.value ∙ ap (λ (x : ℕ). bytes_of x c.args.s.now) n)
