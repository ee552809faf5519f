use Rattle.sr_execute.proofs.Taking.{completed_none, completed_some}
use Rattle.sr_execute.proofs.co.complete_at.Goals as goal

pub returns-in_ok-push-in-Some : goal.returns-in_ok-push-in-Some
returns-in_ok-push-in-Some c =
    completed_some c.args.at c.args.results c.args.arms.now c.args.next c.arm_at.result c.in-Some.arm.now c.args.frame.now c.in_ok-out-in-Some.out c.take.new.self c.push.new.self
    c.requires.first c.arm_at.ensures c.in-Some.ensures.value
    c.in_ok-out-in-Some.ensures.item c.in_ok-out-in-Some.ensures.others c.in_ok-push-in-Some.ensures

pub returns-in-None : goal.returns-in-None
returns-in-None c =
    completed_none c.args.at c.args.results c.args.arms.now c.args.next c.arm_at.result c.args.frame.now c.arm_at.ensures c.in-None.ensures.value
