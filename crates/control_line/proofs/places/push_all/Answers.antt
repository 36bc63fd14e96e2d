use Rattle.std.proofs.Common.{◌≡◌, rules, refl, sym, ap, ◌∙◌, arith, length, drop, take, ℕ, ◌+◌}
use Rattle.control.specs.Outbox.{messages}
use Rattle.control_line.specs.Laws.{pushed_turn, pushed_end, messages_held}
use Rattle.control_line.specs.Ring.{push_all_of}
use Rattle.control_line.specs.Rows.{line_of}
use Rattle.control_line.specs.declared.ControlLine.{ControlLine}
use Rattle.control_line.proofs.places.push_all.Goals as goal
use Rattle.control_line.proofs.places.push_all.Goals.{Start}

whole : (c : Start) → length c.args.outbox.slots ≡ 257
whole c = search rules

pub loop-message-init : goal.loop-message-init
loop-message-init c = refl

pub loop-message-preserved : goal.loop-message-preserved
loop-message-preserved c =
    let ms = take c.held.result c.args.outbox.slots in
    let i = c.loop-message.message-index in
    ap (λ (l : ControlLine). push_all_of l (drop (i + 1) ms)) c.push-ends.ensures
    ∙ sym (pushed_turn ms (line_of c.loop-message.rows c.loop-message.ends) i _ (omega arith))
    ∙ c.loop-message.invariant

pub returns : goal.returns
returns c =
    let o = c.args.outbox in
    let ms = take c.held.result o.slots in
    let all : ms ≡ messages o = ap (λ (n : ℕ). take n o.slots) c.held.ensures ∙ messages_held o (whole (goal.at.returns c).Start) in
    sym (pushed_end ms (line_of c.loop-message.rows c.loop-message.ends) c.loop-message.message-index (omega arith))
    ∙ c.loop-message.invariant
    ∙ ap (push_all_of (line_of c.args.rows.now c.args.ends)) all
