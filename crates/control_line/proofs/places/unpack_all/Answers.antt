use Rattle.std.specs.Prelude.{[], ◌≡◌, length}
use Rattle.std.proofs.Common.{rules, tests}
use Rattle.base.specs.Mapped.{mapped}
use Rattle.control_line.specs.Ring.{unused}
use Rattle.control_line.specs.Rows.{slot_at}
use Rattle.control_line.proofs.places.unpack_all.Goals as goal

pub returns : goal.returns
returns c =
    let rows = c.args.rows in
    let long : length rows ≡ 1024 = search rules in
    mapped slot_at [] unused rows _ 1024 long c.map.ensures.items (λ p q x y k. search (rules, tests))
