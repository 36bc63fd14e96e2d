use Rattle.std.proofs.Common.{rules, ◌≡◌, ◌∙◌, ◌≤◌, refl, sym, ap, length, set}
use Rattle.base.specs.Write.{over_lent}
use Rattle.reply.specs.Rows.{row_size, zeros, reply_in}
use Rattle.reply.specs.Rules.{reply_of}
use Rattle.link.specs.Ranges.{range_size, range_in, range_packed, behind_in, behind_packed}
use Rattle.link.proofs.ranges.pack_range.Goals as goal

pub returns-in-Some : goal.returns-in-Some
returns-in-Some c =
    let row = c.pack-packed.result in
    let h : length row ≡ row_size = search rules in
    let d = set (zeros range_size) 0 1 in
    let near : 1 ≤ length d = search rules in
    let e = over_lent d 1 row _ near c.copy.ensures in
    record {
      value = rw e (range_packed c.in-Some.reply _ row h refl c.pack-packed.ensures ∙ sym c.in-Some.is);
      behind = rw e (behind_packed c.in-Some.reply _ row h refl c.pack-packed.ensures ∙ sym (ap reply_of c.in-Some.is));
    }

pub returns-in_default : goal.returns-in_default
unfolding range_in behind_in reply_in
returns-in_default c = record { value = sym c.in_default.is; behind = sym (ap reply_of c.in_default.is) }
