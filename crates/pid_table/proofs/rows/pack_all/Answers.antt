use Rattle.std.specs.Prelude.{[], ◌≡◌, length}
use Rattle.std.proofs.Common.{rules, tests}
use Rattle.base.specs.Mapped.{mapped_back}
use Rattle.pid_table.specs.Entry.{nobody}
use Rattle.pid_table.specs.Rows.{info_of, table_of}
use Rattle.pid_table.proofs.rows.pack_all.Goals as goal

pub returns : goal.returns
unfolding table_of
returns c =
    let table = c.args.table in
    let long : length table ≡ 256 = search rules in
    mapped_back info_of nobody [] table _ 256 long c.map.ensures.items (λ p q x y k. search (rules, tests))
