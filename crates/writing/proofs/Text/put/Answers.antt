-- `Text::put` meets its contract: the part that has room comes in its place.
use Rattle.std.proofs.Common.{List, ℕ, ◌+◌, ◌∙◌, ap, sym, rules, take}
use Rattle.base.specs.Write.{over_lent}
use Rattle.writing.specs.Added.{added_part}
use Rattle.writing.proofs.Text.put.Goals as goal

pub returns : goal.returns
returns g c =
    let i = c.self.inside in
    let n = c.min-n.result in
    let w = over_lent i.bytes i.len _ c.copy.new.to (search rules) c.copy.ensures in
    record {
      text_is =
          rw (sym c.self.view_is)
          (ap (λ (x : List ℕ). take (i.len + n) x) w ∙ added_part _ i.bytes i.len (search rules) c.args.s.now n c.self.invariant c.min-n.ensures);
    }
