use Rattle.std.proofs.Common.{IfOk, List, Result, Ok, Err, ◌≢◌, refl, subst}
use Rattle.sr_value.specs.declared.memory.NoMemory.{NoMemory}
use Rattle.sr_value.specs.declared.shape.Shape.{Shape}
use Rattle.sr_code.specs.Operands.{shape_on}
use Rattle.sr_code.specs.Stacks.{below}
use Rattle.sr_ask.specs.declared.environment.Spot.TheVariants.{Own as an_own}
use Rattle.sr_execute.specs.Executes.{Began, makes}
use Rattle.sr_execute.specs.Quick.{DoesOrLeaves}
use Rattle.sr_execute.specs.declared.frame.Frame.{Frame}
use Rattle.sr_execute.specs.declared.quick.Carried.{Carried}
use Rattle.sr_execute.specs.declared.quick.Carried.TheVariants.{Goes, Faults, Left}
use Rattle.sr_execute.proofs.quick_variables.quick_make.Goals as goal

-- what was done from other operands, and not left alone
done_from : (result : Result Carried NoMemory) (old there new : Frame) (meant : Began) → IfOk result (λ carried. carried ≢ Left) → DoesOrLeaves result there new meant → DoesOrLeaves result old new meant
done_from (Ok (Goes to)) old there new meant done does = does
done_from (Ok (Faults fault)) old there new meant done does = does
done_from (Ok Left) old there new meant done does = absurd (done refl)
done_from (Err out) old there new meant done does = does

pub returns : goal.returns
returns c =
    let there : List Shape → Frame = λ shapes. record c.args.frame.now { operands = record c.args.frame.now.operands { shapes = shapes } } in
    let taken : Frame = there (below c.args.frame.now.operands.shapes) in
    let R : List Shape → Type 0 = λ shapes. DoesOrLeaves c.quick_made.result (there shapes) c.quick_made.new.frame (makes (an_own c.args.var) c.take_shape-shape.result c.args.next (there shapes).operands (there shapes)) in
    let S : Shape → Type 0 = λ shape. DoesOrLeaves c.quick_made.result taken c.quick_made.new.frame (makes (an_own c.args.var) shape c.args.next taken.operands taken) in
    done_from c.quick_made.result c.args.frame.now taken c.quick_made.new.frame (makes (an_own c.args.var) (shape_on c.args.frame.now.operands) c.args.next taken.operands taken) c.quick_made.ensures.not_left
    (subst S c.take_shape-shape.ensures.shape (subst R c.take_shape-shape.ensures.rest c.quick_made.ensures.made))
