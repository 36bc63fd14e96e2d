use Rattle.std.specs.Prelude.{[], ◌≡◌, length}
use Rattle.std.proofs.Common.{rules, tests}
use Rattle.base.specs.Mapped.{mapped}
use Rattle.pid_table.specs.Entry.{nobody}
use Rattle.pid_table.specs.Rows.{info_of, table_of}
use Rattle.pid_table.proofs.rows.unpack_all.Goals as goal

pub returns : goal.returns
unfolding table_of
returns c =
    let rows = c.args.rows in
    let long : length rows ≡ 256 = search rules in
    mapped info_of [] nobody rows _ 256 long c.map.ensures.items (λ p q x y k. search (rules, tests))
