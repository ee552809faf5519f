use Rattle.std.proofs.Common.{◌∙◌, ap, sym}
use Rattle.sr_core.specs.declared.statement.Action.TheVariants as tree
use Rattle.sr_meaning.specs.Statements.{action_meaning}
use Rattle.sr_gen.proofs.Actions.{acts_reply}
use Rattle.sr_gen.proofs.Endings.{acts_as, acts_left, acts_returned, acts_skip, acts_turned}
use Rattle.sr_gen.proofs.action.gen_action.Goals as goal

pub returns-in-Skip : goal.returns-in-Skip
returns-in-Skip c = acts_as (ap action_meaning c.in-Skip.is) (acts_skip c.args.ways c.args.core.now c.args.place c.args.out.now)

pub returns-in_ok-gen_evaluate-in-Evaluate : goal.returns-in_ok-gen_evaluate-in-Evaluate
returns-in_ok-gen_evaluate-in-Evaluate c = acts_as (ap action_meaning c.in-Evaluate.is) (c.in_ok-gen_evaluate-in-Evaluate.ensures c.args.ways)

pub returns-in_ok-gen_send-in-Send : goal.returns-in_ok-gen_send-in-Send
returns-in_ok-gen_send-in-Send c =
    acts_as (ap action_meaning c.in-Send.is ∙ ap (λ args. action_meaning (tree.Send c.in-Send.target args)) (sym c.as_slice.ensures)) (c.in_ok-gen_send-in-Send.ensures c.args.ways)

pub returns-in_ok-gen_forward-in-Forward : goal.returns-in_ok-gen_forward-in-Forward
returns-in_ok-gen_forward-in-Forward c =
    acts_as (ap action_meaning c.in-Forward.is ∙ ap (λ args. action_meaning (tree.Forward c.in-Forward.target args)) (sym c.as_slice-in-Forward.ensures)) (c.in_ok-gen_forward-in-Forward.ensures c.args.ways)

pub returns-in_ok-gen_assign-in-Assign : goal.returns-in_ok-gen_assign-in-Assign
returns-in_ok-gen_assign-in-Assign c = acts_as (ap action_meaning c.in-Assign.is) (c.in_ok-gen_assign-in-Assign.ensures c.args.ways)

pub returns-in_ok-gen_swap-in-Swap : goal.returns-in_ok-gen_swap-in-Swap
returns-in_ok-gen_swap-in-Swap c = acts_as (ap action_meaning c.in-Swap.is) (c.in_ok-gen_swap-in-Swap.ensures c.args.ways)

pub returns-in_ok-gen_bump-in-Bump : goal.returns-in_ok-gen_bump-in-Bump
returns-in_ok-gen_bump-in-Bump c = acts_as (ap action_meaning c.in-Bump.is) (c.in_ok-gen_bump-in-Bump.ensures c.args.ways)

pub returns-in_ok-gen_write-in-Write : goal.returns-in_ok-gen_write-in-Write
returns-in_ok-gen_write-in-Write c =
    acts_as (ap action_meaning c.in-Write.is ∙ ap (λ args. action_meaning (tree.Write args c.in-Write.line)) (sym c.as_slice-in-Write.ensures)) (c.in_ok-gen_write-in-Write.ensures c.args.ways)

pub returns-in_ok-gen_stop-in-Stop : goal.returns-in_ok-gen_stop-in-Stop
returns-in_ok-gen_stop-in-Stop c = acts_as (ap action_meaning c.in-Stop.is) (c.in_ok-gen_stop-in-Stop.ensures c.args.ways)

pub returns-in_ok-gen_destroy-in-Destroy : goal.returns-in_ok-gen_destroy-in-Destroy
returns-in_ok-gen_destroy-in-Destroy c = acts_as (ap action_meaning c.in-Destroy.is) (c.in_ok-gen_destroy-in-Destroy.ensures c.args.ways)

pub returns-in_ok-gen_until-in-Until : goal.returns-in_ok-gen_until-in-Until
returns-in_ok-gen_until-in-Until c = acts_as (ap action_meaning c.in-Until.is) (c.in_ok-gen_until-in-Until.ensures c.args.ways)

pub returns-in_ok-emit-in-Exit : goal.returns-in_ok-emit-in-Exit
returns-in_ok-emit-in-Exit c = acts_as (ap action_meaning c.in-Exit.is) (acts_left c.in_ok-emit-in-Exit.ensures)

pub returns-in_ok-emit-in-Next : goal.returns-in_ok-emit-in-Next
returns-in_ok-emit-in-Next c = acts_as (ap action_meaning c.in-Next.is) (acts_turned c.in_ok-emit-in-Next.ensures)

pub returns-in_ok-emit-in-Return : goal.returns-in_ok-emit-in-Return
returns-in_ok-emit-in-Return c = acts_as (ap action_meaning c.in-Return.is) (acts_returned c.in_ok-emit-in-Return.ensures)

pub returns-in_ok-emit-in-Reply : goal.returns-in_ok-emit-in-Reply
returns-in_ok-emit-in-Reply c = acts_as (ap action_meaning c.in-Reply.is) (acts_reply c.in_ok-emit-in-Reply.ensures)
