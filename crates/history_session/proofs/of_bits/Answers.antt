-- `history_session::of_bits` meets its contract.
use mathlib.Core.Bool.{false}
use native.Mathlib.Omega.{arith}
use Rattle.std.proofs.lemmas.List.FromFn.{fill_by_all}
use Rattle.history_session.specs.Session.{bit_in}
use Rattle.history_session.proofs.of_bits.Goals as goal

pub returns : goal.returns
returns c =
    fill_by_all (bit_in c.args.bits) c.loop-p.known 256 false c.loop-p.invariant.0 (λ k h. c.loop-p.invariant.1 k (omega arith))
