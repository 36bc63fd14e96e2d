use Rattle.std.proofs.Common.{◌<◌, rules, ap, ◌∙◌}
use mir.Val.{bool_byte}
use Rattle.pid_table.specs.Rows.{packed}
use Rattle.pid_table.proofs.rows.pack.Goals as goal

pub returns : goal.returns
returns c =
    let k : c.args.info.count < 4294967296 = search rules in
    packed c.args.info _ _ _ _ _ _ _ _ c.from.ensures c.slow_in.ensures c.from-2.ensures c.from-3.ensures (c.from-4.ensures ∙ ap bool_byte c.is_some.ensures) c.unwrap_or.ensures (c.from-5.ensures ∙ ap bool_byte c.is_some-2.ensures) c.unwrap_or-2.ensures k
