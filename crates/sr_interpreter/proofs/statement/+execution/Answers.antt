-- What the lemmas on pieces say at each return, and that what is found within has less to carry out.
use Rattle.std.proofs.Common.{◌≡◌, ◌+◌, ◌-◌, ◌<◌, length, map, take, drop, Some, ap, ◌∙◌, subst, to_z, of_z, w32, arith, rules}
use Rattle.std.specs.List.{slice_get}
use Rattle.std.proofs.lemmas.Result.{err_from_is_err_and}
use Rattle.sr_ask.specs.Behaviors.{Came}
use Rattle.sr_ask.specs.declared.forms.Selection.TheVariants.{Service, Otherwise}
use Rattle.sr_meaning.specs.Pieces.{co_part_of, guarded_of, optional_block}
use Rattle.sr_interpreter.specs.Blocks.{inner_meaning}
use Rattle.sr_meaning.specs.Statements.{do_turn, meaning_of, quantified, site_at, start_calls}
use Rattle.sr_interpreter_parts.specs.Turns.{listed}
use Rattle.sr_interpreter_expr.specs.Interpreters.{Agrees, here_of, stage_of}
use Rattle.sr_interpreter.proofs.Completions.{reply_given, no_reply_given}
use Rattle.sr_interpreter.proofs.Executions.{arm_given, arm_within, block_given, block_within, calls_end, calls_go_on, do_stops, first_and_rest, in_given, in_stops, no_arm, no_block, not_there, quantified_fails, quantified_given, there}
use Rattle.sr_meaning.proofs.Weights.{weight_of_arm, weight_of_block}
use Rattle.sr_interpreter.proofs.Steps.{looped_ends, looped_stops}
use Rattle.sr_interpreter.proofs.statement.+execution.Goals as goal

pub complete_next-returns-in-Ok : goal.complete_next-returns-in-Ok
complete_next-returns-in-Ok g t c =
    reply_given c.args.arms.now (here_of g.C.HasCore.core_of c.args.scene.now) (stage_of c.args.interpreter.now) (stage_of c.take_reply.new.interpreter) c.in-Ok.reply c.complete_reply.result (stage_of c.complete_reply.new.interpreter)
    c.in-Ok.ensures.taken c.in-Ok.ensures.first c.complete_reply.ensures

pub complete_next-returns-in-Err : goal.complete_next-returns-in-Err
complete_next-returns-in-Err g t c =
    no_reply_given (map co_part_of c.args.arms.now) (here_of g.C.HasCore.core_of c.args.scene.now) (stage_of c.args.interpreter.now) (stage_of c.take_reply.new.interpreter) c.in-Err.stop c.in-Err.ensures.taken

pub complete_reply-complete_arm-requires : goal.complete_reply-complete_arm-requires
complete_reply-complete_arm-requires g t c =
    let less : weight_of_arm c.in-Some.arm.now < t = omega (
      arith,
      arm_within weight_of_arm c.args.arms.now c.arm_out.result c.in-Some.arm.now
          (there c.args.arms.now c.arm_out.result c.in-Some.arm.now c.in-Some.ensures.lookup.3.0 c.in-Some.ensures.lookup.1),
    ) in
    λ κs within. (less, (within, c.requires))

pub complete_reply-returns-in-None : goal.complete_reply-returns-in-None
complete_reply-returns-in-None g t c =
    no_arm c.args.arms.now c.args.interpreter.now.out c.args.reply.at c.arm_out.result c.args.reply.results (here_of g.C.HasCore.core_of c.args.scene.now) (stage_of c.args.interpreter.now) c.arm_out.ensures (not_there c.args.arms.now c.arm_out.result c.in-None.ensures.lookup.3)

pub complete_reply-returns-in-Some : goal.complete_reply-returns-in-Some
complete_reply-returns-in-Some g t c =
    arm_given c.args.arms.now c.args.interpreter.now.out c.args.reply.at c.arm_out.result c.in-Some.arm.now c.args.reply.results (here_of g.C.HasCore.core_of c.args.scene.now) (stage_of c.args.interpreter.now)
    c.complete_arm.result (stage_of c.complete_arm.new.interpreter) c.arm_out.ensures
    (there c.args.arms.now c.arm_out.result c.in-Some.arm.now c.in-Some.ensures.lookup.3.0 c.in-Some.ensures.lookup.1) c.complete_arm.ensures

pub run_do-returns-in-Err : goal.run_do-returns-in-Err
run_do-returns-in-Err g t c =
    do_stops (map guarded_of c.args.guards.now) (optional_block c.args.otherwise.now) c.args.place (here_of g.C.HasCore.core_of c.args.scene.now) (here_of g.C.HasCore.core_of c.at_line.result) (stage_of c.args.interpreter.now)
    (stage_of c.tick.new.interpreter) c.in-Err.stop (stage_of c.run_turns.new.interpreter) c.in_ok-tick.ensures c.at_line.ensures c.in-Err.ensures

pub run_in-returns-in-Ok-Service : goal.run_in-returns-in-Ok-Service
run_in-returns-in-Ok-Service g t c =
    in_given c.args.site c.args.arms.now (map meaning_of c.args.otherwise.now) c.args.place (here_of g.C.HasCore.core_of c.args.scene.now) (here_of g.C.HasCore.core_of c.at_line-scene.result) (stage_of c.args.interpreter.now)
    (stage_of c.tick.new.interpreter) (stage_of c.choose.new.interpreter) c.in-Ok-Service.field-0 (Service c.in-Ok-Service.pick) c.run_pick.result (stage_of c.run_pick.new.interpreter)
    c.in_ok-tick.ensures c.at_line-scene.ensures c.in-Ok-Service.ensures c.in-Ok-Service.field-0-is c.run_pick.ensures

pub run_in-returns-in-Ok-Otherwise : goal.run_in-returns-in-Ok-Otherwise
run_in-returns-in-Ok-Otherwise g t c =
    in_given c.args.site c.args.arms.now (map meaning_of c.args.otherwise.now) c.args.place (here_of g.C.HasCore.core_of c.args.scene.now) (here_of g.C.HasCore.core_of c.at_line-scene.result) (stage_of c.args.interpreter.now)
    (stage_of c.tick.new.interpreter) (stage_of c.choose.new.interpreter) c.in-Ok-Otherwise.field-0 Otherwise c.run_block.result (stage_of c.run_block.new.interpreter)
    c.in_ok-tick.ensures c.at_line-scene.ensures c.in-Ok-Otherwise.ensures c.in-Ok-Otherwise.field-0-is c.run_block.ensures

pub run_in-returns-in-Err : goal.run_in-returns-in-Err
run_in-returns-in-Err g t c =
    in_stops c.args.site c.args.arms.now (map meaning_of c.args.otherwise.now) c.args.place (here_of g.C.HasCore.core_of c.args.scene.now) (here_of g.C.HasCore.core_of c.at_line-scene.result) (stage_of c.args.interpreter.now)
    (stage_of c.tick.new.interpreter) c.in-Err.stop (stage_of c.choose.new.interpreter) c.in_ok-tick.ensures c.at_line-scene.ensures c.in-Err.ensures

pub run_pick-run_service-requires : goal.run_pick-run_service-requires
run_pick-run_service-requires g t c =
    let found : Some c.as_slice.result.now ≡ slice_get c.args.arms.now c.args.pick.arm = ap (λ block. Some block) c.as_slice.ensures
    ∙ there c.args.arms.now c.args.pick.arm c.in-Some-get.block.now c.in-Some-get.ensures.lookup.3.0 c.in-Some-get.ensures.lookup.1 in
    let less : 1 + weight_of_block c.as_slice.result.now < t = omega (arith, block_within c.args.arms.now c.args.pick.arm c.as_slice.result.now found) in
    λ κs within. (less, within)

pub run_pick-returns-in-None-get : goal.run_pick-returns-in-None-get
run_pick-returns-in-None-get g t c =
    no_block c.args.pick (slice_get (site_at c.args.site (here_of g.C.HasCore.core_of c.args.scene.now)).arms c.args.pick.arm) c.args.arms.now (here_of g.C.HasCore.core_of c.args.scene.now) (stage_of c.args.interpreter.now)
    (not_there c.args.arms.now c.args.pick.arm c.in-None-get.ensures.lookup.3)

pub run_pick-returns-in-Some-get : goal.run_pick-returns-in-Some-get
run_pick-returns-in-Some-get g t c =
    let found : Some c.as_slice.result.now ≡ slice_get c.args.arms.now c.args.pick.arm = ap (λ block. Some block) c.as_slice.ensures
    ∙ there c.args.arms.now c.args.pick.arm c.in-Some-get.block.now c.in-Some-get.ensures.lookup.3.0 c.in-Some-get.ensures.lookup.1 in
    block_given c.args.pick (site_at c.args.site (here_of g.C.HasCore.core_of c.args.scene.now)).arms c.in-Some.arm.now c.args.arms.now c.as_slice.result.now (here_of g.C.HasCore.core_of c.args.scene.now) (stage_of c.args.interpreter.now)
    c.run_service.result (stage_of c.run_service.new.interpreter) c.in-Some.ensures found c.run_service.ensures

pub run_quantified-returns-in-Ok : goal.run_quantified-returns-in-Ok
run_quantified-returns-in-Ok g t c =
    let from : to_z w32 (of_z w32 c.in_ok-from-in-len1-up.from) ≡ c.in_ok-from-in-len1-up.from = search rules in
    let to : to_z w32 (of_z w32 c.in_ok-to-in-len1-up.to) ≡ c.in_ok-to-in-len1-up.to = search rules in
    let by : to_z w32 (of_z w32 c.in_ok-by-in-len1-up.by) ≡ c.in_ok-by-in-len1-up.by = search rules in
    let P : _ → Type 0 = λ quantifiers. Agrees (quantified quantifiers (inner_meaning c.args.inner.now) (here_of g.C.HasCore.core_of c.args.scene.now) (stage_of c.args.interpreter.now)) c.run_values.result (stage_of c.run_values.new.interpreter) in
    subst P (first_and_rest c.args.quantifiers.now c.first-item.result (omega arith) c.first-item.is)
    (quantified_given c.first-item.result (take (length c.args.quantifiers.now - 1) (drop 1 c.args.quantifiers.now)) (inner_meaning c.args.inner.now) (here_of g.C.HasCore.core_of c.args.scene.now) (stage_of c.args.interpreter.now) (stage_of c.number_of.new.interpreter)
    (stage_of c.number_of-in-len1-up.new.interpreter) (stage_of c.number_of-in-len1-up-2.new.interpreter) c.in_ok-from-in-len1-up.from c.in_ok-to-in-len1-up.to c.in_ok-by-in-len1-up.by
    (to_z w32 (of_z w32 c.in_ok-from-in-len1-up.from)) (to_z w32 (of_z w32 c.in_ok-to-in-len1-up.to)) (to_z w32 (of_z w32 c.in_ok-by-in-len1-up.by)) (listed c.in-Ok.values)
    c.run_values.result (stage_of c.run_values.new.interpreter) from to by c.in_ok-from-in-len1-up.ensures c.in_ok-to-in-len1-up.ensures c.in_ok-by-in-len1-up.ensures c.in-Ok.ensures.meant c.run_values.ensures)

pub run_quantified-returns-in-Err : goal.run_quantified-returns-in-Err
run_quantified-returns-in-Err g t c =
    let from : to_z w32 (of_z w32 c.in_ok-from-in-len1-up.from) ≡ c.in_ok-from-in-len1-up.from = search rules in
    let to : to_z w32 (of_z w32 c.in_ok-to-in-len1-up.to) ≡ c.in_ok-to-in-len1-up.to = search rules in
    let by : to_z w32 (of_z w32 c.in_ok-by-in-len1-up.by) ≡ c.in_ok-by-in-len1-up.by = search rules in
    let P : _ → Type 0 = λ quantifiers. Agrees (quantified quantifiers (inner_meaning c.args.inner.now) (here_of g.C.HasCore.core_of c.args.scene.now) (stage_of c.args.interpreter.now)) c.failed.result (stage_of c.number_of-in-len1-up-2.new.interpreter) in
    subst P (first_and_rest c.args.quantifiers.now c.first-item.result (omega arith) c.first-item.is)
    (quantified_fails c.first-item.result (take (length c.args.quantifiers.now - 1) (drop 1 c.args.quantifiers.now)) (inner_meaning c.args.inner.now) (here_of g.C.HasCore.core_of c.args.scene.now) (stage_of c.args.interpreter.now) (stage_of c.number_of.new.interpreter)
    (stage_of c.number_of-in-len1-up.new.interpreter) (stage_of c.number_of-in-len1-up-2.new.interpreter) c.in_ok-from-in-len1-up.from c.in_ok-to-in-len1-up.to c.in_ok-by-in-len1-up.by
    (to_z w32 (of_z w32 c.in_ok-from-in-len1-up.from)) (to_z w32 (of_z w32 c.in_ok-to-in-len1-up.to)) (to_z w32 (of_z w32 c.in_ok-by-in-len1-up.by)) c.in-Err.fault
    c.failed.result (stage_of c.number_of-in-len1-up-2.new.interpreter) from to by c.in_ok-from-in-len1-up.ensures c.in_ok-to-in-len1-up.ensures c.in_ok-by-in-len1-up.ensures c.in-Err.ensures.meant c.failed.ensures)

pub start_calls-returns-in-Err : goal.start_calls-returns-in-Err
start_calls-returns-in-Err g t c =
    calls_end c.args.arms.now c.loop-at.at c.in_ok-arm_number.field-0 c.index-arms-at.result c.as_slice-in-loop-at.result.now c.as_slice.result.now (here_of g.C.HasCore.core_of c.args.scene.now) (stage_of c.loop-at.interpreter)
    (stage_of c.run_quantified.new.interpreter) c.run_quantified.result c.in-Err.stop (start_calls 0 (map co_part_of c.args.arms.now) (here_of g.C.HasCore.core_of c.args.scene.now) (stage_of c.args.interpreter.now))
    (omega arith) c.index-arms-at.is c.in_ok-arm_number.ensures c.as_slice-in-loop-at.ensures c.as_slice.ensures c.in-Err.is c.run_quantified.ensures c.loop-at.invariant

pub start_calls-loop-at-preserved : goal.start_calls-loop-at-preserved
start_calls-loop-at-preserved g t c =
    calls_go_on c.args.arms.now c.loop-at.at c.in_ok-arm_number.field-0 c.index-arms-at.result c.as_slice-in-loop-at.result.now c.as_slice.result.now (here_of g.C.HasCore.core_of c.args.scene.now) (stage_of c.loop-at.interpreter)
    (stage_of c.run_quantified.new.interpreter) c.run_quantified.result c.in-Ok.field-0 (start_calls 0 (map co_part_of c.args.arms.now) (here_of g.C.HasCore.core_of c.args.scene.now) (stage_of c.args.interpreter.now))
    (omega arith) c.index-arms-at.is c.in_ok-arm_number.ensures c.as_slice-in-loop-at.ensures c.as_slice.ensures c.in-Ok.is c.run_quantified.ensures c.loop-at.invariant

pub run_turns-returns-in_err-ending : goal.run_turns-returns-in_err-ending
run_turns-returns-in_err-ending g t c =
    let same = err_from_is_err_and c.from_residual-in_err-ending.result c.from_residual-in_err-ending.ensures.1 in
    rw (same.1, same.2)
    (looped_stops c.args.scene.now.limit c.turns.most (c.room-most.result + 1) (do_turn (map guarded_of c.args.guards.now) (optional_block c.args.otherwise.now) (here_of g.C.HasCore.core_of c.args.scene.now))
    (stage_of c.args.interpreter.now) (stage_of c.turns.interpreter) (stage_of c.tick.new.interpreter) (stage_of c.run_turn.new.interpreter) c.in_err-ending.field-0.0
    (omega arith) (ap (λ n. n + 1) c.room-most.ensures.value) c.turns.invariant c.in_ok-tick.ensures c.in_err-ending.ensures)

pub run_turns-returns-in-Some : goal.run_turns-returns-in-Some
run_turns-returns-in-Some g t c =
    looped_ends c.args.scene.now.limit c.turns.most (c.room-most.result + 1) (do_turn (map guarded_of c.args.guards.now) (optional_block c.args.otherwise.now) (here_of g.C.HasCore.core_of c.args.scene.now))
    (stage_of c.args.interpreter.now) (stage_of c.turns.interpreter) (stage_of c.tick.new.interpreter) (stage_of c.run_turn.new.interpreter) c.in-Some.ending
    (omega arith) (ap (λ n. n + 1) c.room-most.ensures.value) c.turns.invariant c.in_ok-tick.ensures
    (c.in_ok-ending.ensures ∙ ap (λ end. Came end (stage_of c.run_turn.new.interpreter)) c.in-Some.is)
