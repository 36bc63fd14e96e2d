use Rattle.std.specs.Prelude.{[]}
use mathlib.Core.Path.{refl}
use Rattle.obd2.specs.Core.{lent}
use Rattle.poller.specs.Core.{held}
use Rattle.by_value.specs.Parts.{Parts, by_parts}
use borrow.Author.Rules.{rules}
use Rattle.by_value.proofs.call.Goals as goal

pub call-said-requires : goal.call-said-requires
call-said-requires c =
    record {
      marks = search rules;
      table = search rules;
      polled = rw c.polled_of-polled.ensures;
      known = rw c.known_of-known.ensures;
      pids = search rules;
      rates = search rules;
    }

pub returns : goal.returns
returns c =
    let a = c.args in
    let x = lent c.pack_all-replies.result c.marks_of-marks.result c.pack_all-table.result c.pack_all-slots.result (held c.polled_of-polled.result c.known_of-known.result a.state.poller.plan.pids c.pack_all-ranges.result) [] [] in
    let parts : Parts a.state x = record {
      replies = c.pack_all-replies.ensures;
      marks = c.marks_of-marks.ensures;
      table = c.pack_all-table.ensures;
      slots = c.pack_all-slots.ensures;
      polled = c.polled_of-polled.ensures;
      known = c.known_of-known.ensures;
      order = refl;
      ranges = c.pack_all-ranges.ensures.value;
    } in
    let told = by_parts a.state x c.core_of-core.result parts c.core_of-core.ensures a.time a.call a.brought a.cmd.now a.area.now _ _ _ c.answered_of.ensures (c.call-said.ensures.result_after, (c.call-said.ensures.area_after, c.call-said.ensures.promised)) in
    record { value = told.0; area_after = told.1.0; promised = told.1.1 }
