use Rattle.std.specs.Prelude.{[], ◌≡◌, length}
use Rattle.std.proofs.Common.{rules, tests, ap, ◌∙◌}
use Rattle.base.specs.Mapped.{mapped}
use Rattle.control_line.specs.Ring.{unused}
use Rattle.control_line.specs.Rows.{row_of, slots_of, all_back}
use Rattle.control_line.proofs.places.pack_all.Goals as goal

pub returns : goal.returns
returns c =
    let slots = c.args.slots in
    let long : length slots ≡ 1024 = search rules in
    ap slots_of (mapped row_of unused [] slots _ 1024 long c.map.ensures.items (λ p q x y k. search (rules, tests))) ∙ all_back slots
