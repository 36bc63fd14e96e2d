use Rattle.delivery.specs.Evaluation.{turn_by}
use Rattle.delivery.proofs.evaluation.turn.Goals as goal

pub returns : goal.returns
returns c =
    let s = c.args in
    turn_by s.response s.i s.evaluated c.of_reply-value.result c.revs_after-turning.result c.switch-switched.result c.notice-notice.result
    c.of_reply-value.ensures c.revs_after-turning.ensures c.switch-switched.ensures c.notice-notice.ensures
