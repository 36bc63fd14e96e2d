-- `Text::pairs_whole` meets its contract: what `hex_text::put` leaves of the memory is the text with the pairs behind it.
use Rattle.std.proofs.Common.{sym, rules}
use Rattle.hex_text.specs.Pairs.{hex_text}
use Rattle.writing.specs.Added.{whole_put, put_within}
use Rattle.writing.proofs.Text.pairs_whole.Goals as goal

pub invariant_of-self : goal.invariant_of-self
invariant_of-self g c =
    let i = c.self.inside in
    rw c.put-self-inside.ensures.value (put_within g.row.N i.bytes i.len (search rules) c.self.invariant (hex_text c.args.s.now))

pub returns : goal.returns
returns g c =
    let i = c.self.inside in
    rw (sym c.self.view_is, c.put-self-inside.ensures.value, c.put-self-inside.ensures.out_after)
    (whole_put g.row.N i.bytes i.len (search rules) c.self.invariant (hex_text c.args.s.now))
