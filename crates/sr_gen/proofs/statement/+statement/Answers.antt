use Rattle.std.proofs.Common.{◌≡◌, ◌<◌, Some, ap, arith, length, map, refl, slice_get, sym, ◌∙◌, ◌+◌}
use Rattle.std.proofs.lemmas.List.{length-map}
use Rattle.sr_core.specs.Formals.{result_vars}
use Rattle.sr_core.specs.declared.statement.Scope.TheVariants.{Own as own_scope}
use Rattle.sr_core.specs.declared.statement.Guarded.{out-Guarded}
use Rattle.sr_code.specs.declared.instruction.Instruction.TheVariants.{Again, Jump, OpenService}
use Rattle.sr_meaning.specs.Pieces.{co_part_of, guarded_of, optional_block}
use Rattle.sr_meaning.specs.Statements.{block_of, make_formals, meaning_of, no_guard, quantified}
use Rattle.sr_gen_expr.proofs.Stretching.{emits_as, takes_as}
use Rattle.sr_gen.specs.Blocks.{inner_meaning}
use Rattle.sr_gen.specs.Doing.{fa_ways}
use Rattle.sr_gen.proofs.Blocks.{acts_if, tries_as, tries_guarded}
use Rattle.sr_gen.proofs.Enclosed.{opened_as}
use Rattle.sr_gen.proofs.Endings.{acts_as, acts_ticked}
use Rattle.sr_gen.proofs.Listed.{block_begins, block_ends, block_steps, guards_begin, guards_end, guards_step}
use Rattle.sr_gen.proofs.Loops.{acts_do, acts_fa, acts_pads, acts_with, checks_with, patches_with, rests_as, rests_none, rests_some, rests_with, tries_loop, tries_with}
use Rattle.sr_gen.proofs.Services.{acts_in_row, item_at, serves_arm, services_begin, services_step}
use Rattle.sr_gen.proofs.Together.{acts_co, calls_begin, calls_end, calls_step, completes_arm, completes_as, part_is, replies_begin, replies_end, replies_step}
use Rattle.sr_gen.proofs.Trees.{guarded_is, meaning_act, meaning_co, meaning_declare, meaning_do, meaning_fa, meaning_if, meaning_in, meaning_sends}
use Rattle.sr_meaning.proofs.Weights.{block_within, weight_of_block}
use Rattle.sr_gen.proofs.statement.+statement.Goals as goal

-- ---- statements

pub gen_statement-returns-in_ok-gen_declared-in-Declare : goal.gen_statement-returns-in_ok-gen_declared-in-Declare
gen_statement-returns-in_ok-gen_declared-in-Declare t c line =
    acts_as (meaning_declare c.args.statement.now c.in-Declare.place c.in-Declare.declaration c.in-Declare.is) (c.in_ok-gen_declared-in-Declare.ensures c.args.ways line)

pub gen_statement-returns-in_ok-gen_act-in-Act : goal.gen_statement-returns-in_ok-gen_act-in-Act
gen_statement-returns-in_ok-gen_act-in-Act t c line =
    acts_as (meaning_act c.args.statement.now c.in-Act.place c.in-Act.action c.in-Act.is) (c.in_ok-gen_act-in-Act.ensures line)

pub gen_statement-returns-in_ok-emit-in-If : goal.gen_statement-returns-in_ok-emit-in-If
gen_statement-returns-in_ok-emit-in-If t c line =
    acts_as (meaning_if c.args.statement.now c.in-If.place c.in-If.guards c.as_slice.result.now c.in-If.otherwise c.as_slice-in-If.result.now c.in-If.is c.as_slice.ensures c.as_slice-in-If.ensures)
    (acts_ticked c.in_ok-gen_if-in-If.ensures c.in_ok-emit-in-If.ensures line)

pub gen_statement-returns-in_ok-emit-in-Do : goal.gen_statement-returns-in_ok-emit-in-Do
gen_statement-returns-in_ok-emit-in-Do t c line =
    acts_as (meaning_do c.args.statement.now c.in-Do.place c.in-Do.guards c.as_slice-in-Do.result.now c.in-Do.otherwise c.in-Do.is c.as_slice-in-Do.ensures)
    (acts_ticked c.in_ok-gen_do-in-Do.ensures c.in_ok-emit-in-Do.ensures line)

pub gen_statement-returns-in_ok-emit-in-Fa : goal.gen_statement-returns-in_ok-emit-in-Fa
gen_statement-returns-in_ok-emit-in-Fa t c line =
    acts_as (meaning_fa c.args.statement.now c.in-Fa.place c.in-Fa.quantifiers c.as_slice-in-Fa.result.now c.in-Fa.body c.as_slice-in-Fa-2.result.now c.in-Fa.is c.as_slice-in-Fa.ensures c.as_slice-in-Fa-2.ensures)
    (acts_ticked c.in_ok-gen_fa-in-Fa.ensures c.in_ok-emit-in-Fa.ensures line)

pub gen_statement-returns-in_ok-gen_sends-in-Sends : goal.gen_statement-returns-in_ok-gen_sends-in-Sends
gen_statement-returns-in_ok-gen_sends-in-Sends t c line =
    acts_as (meaning_sends c.args.statement.now c.in-Sends.place c.in-Sends.target c.in-Sends.count c.in-Sends.is) (c.in_ok-gen_sends-in-Sends.ensures c.args.ways line)

-- ---- blocks

pub gen_block-loop-at-init : goal.gen_block-loop-at-init
gen_block-loop-at-init t c = block_begins c.args.ways c.args.core.now c.args.statements.now (length c.args.statements.now) _ refl

pub gen_block-loop-at-preserved : goal.gen_block-loop-at-preserved
gen_block-loop-at-preserved t c =
    block_steps c.args.statements.now c.loop-at.at c.index-statements-at.result (omega arith) c.loop-at.invariant c.index-statements-at.is c.in_ok-gen_statement.ensures

pub gen_block-returns : goal.gen_block-returns
gen_block-returns t c line = block_ends c.args.statements.now c.loop-at.at (omega arith) c.loop-at.invariant.1 line

-- ---- if

pub gen_if-returns : goal.gen_if-returns
gen_if-returns t c =
    acts_if (map guarded_of c.args.guards.now) (map meaning_of c.args.otherwise.now) (c.in_ok-gen_block.ensures c.args.place) (tries_with refl c.len-through.ensures c.in_ok-gen_guards.ensures)

pub gen_guards-loop-at-init : goal.gen_guards-loop-at-init
gen_guards-loop-at-init t c = guards_begin c.args.ways c.args.through c.args.core.now c.args.place c.args.guards.now (length c.args.guards.now) _ refl

pub gen_guards-loop-at-preserved : goal.gen_guards-loop-at-preserved
gen_guards-loop-at-preserved t c =
    guards_step c.args.guards.now c.loop-at.at c.index-guards-at.result (omega arith) c.loop-at.invariant c.index-guards-at.is c.in_ok-gen_guarded.ensures

pub gen_guards-returns : goal.gen_guards-returns
gen_guards-returns t c = guards_end c.args.guards.now c.loop-at.at (omega arith) c.loop-at.invariant.1

pub gen_guarded-returns : goal.gen_guarded-returns
gen_guarded-returns t c =
    tries_as (guarded_is c.args.guarded.now c.as_slice.result.now c.as_slice.ensures)
    (tries_guarded (record { condition = (out-Guarded c.args.guarded.now).condition; body = map meaning_of c.as_slice.result.now }) c.in_ok-emit.ensures (c.in_ok-gen_block.ensures c.args.place)
    (checks_with c.len-past.ensures c.in_ok-gen_truth.ensures))

-- ---- do

pub gen_do-returns : goal.gen_do-returns
gen_do-returns t c =
    acts_do c.args.guards.now c.args.otherwise.now c.in_ok-emit.ensures
    (rests_with c.len-to.ensures c.len-again.ensures (c.in_ok-gen_otherwise.ensures c.len-again.ensures))
    (tries_loop c.args.ways c.len-to.ensures c.len-again.ensures c.in_ok-gen_guards.ensures)
    (patches_with (ap Again c.len-head.ensures) c.len-to.ensures c.patch.ensures) (emits_as (ap Jump c.len-again.ensures) c.in_ok-emit-2.ensures)

pub gen_otherwise-returns-in_ok-emit-in-None : goal.gen_otherwise-returns-in_ok-emit-in-None
gen_otherwise-returns-in_ok-emit-in-None t c is = rests_as (ap (λ block. no_guard (optional_block block)) c.in-None.is) (rests_none c.args.ways c.args.again c.in_ok-emit-in-None.ensures)

pub gen_otherwise-returns-in_ok-gen_block-in-Some : goal.gen_otherwise-returns-in_ok-gen_block-in-Some
gen_otherwise-returns-in_ok-gen_block-in-Some t c is =
    rests_as (ap (λ block. no_guard (optional_block block)) c.in-Some.is ∙ ap (λ block. no_guard (Some (map meaning_of block))) (sym c.as_slice.ensures))
    (rests_some c.args.ways c.args.to c.args.again (map meaning_of c.as_slice.result.now) is (c.in_ok-gen_block-in-Some.ensures c.args.place))

-- ---- fa

pub gen_fa-returns : goal.gen_fa-returns
gen_fa-returns t c =
    acts_fa (quantified c.args.quantifiers.now (block_of c.args.body.now)) (acts_with (ap (fa_ways c.args.ways) c.len-to.ensures) c.in_ok-gen_quantified.ensures)

pub gen_quantified-returns : goal.gen_quantified-returns
gen_quantified-returns t c =
    c.in_ok-close_all.ensures c.args.ways _ (inner_meaning c.args.inner.now) c.args.out.now c.open_all.new.out
    (opened_as c.args.place c.args.quantifiers.now c.as_slice.result.now c.open_all.new.turns c.args.ways c.args.out.now (length c.args.quantifiers.now) _ c.open_all.new.out
    c.as_slice.ensures c.in_ok-inside.ensures.opened)
    c.in_ok-gen_inner.ensures

pub gen_inner-returns-in_ok-gen_block-in-Block : goal.gen_inner-returns-in_ok-gen_block-in-Block
gen_inner-returns-in_ok-gen_block-in-Block t c = acts_as (ap inner_meaning c.in-Block.is) (c.in_ok-gen_block-in-Block.ensures c.args.place)

pub gen_inner-returns-in_ok-gen_start-in-Call : goal.gen_inner-returns-in_ok-gen_start-in-Call
gen_inner-returns-in_ok-gen_start-in-Call t c = acts_as (ap inner_meaning c.in-Call.is) (c.in_ok-gen_start-in-Call.ensures c.args.ways)

-- ---- in

pub gen_statement-returns-in_ok-emit-in-In : goal.gen_statement-returns-in_ok-emit-in-In
gen_statement-returns-in_ok-emit-in-In t c line =
    acts_as (meaning_in c.args.statement.now c.in-In.place c.in-In.site c.in-In.arms c.as_slice-in-In.result.now c.in-In.otherwise c.as_slice-in-In-2.result.now c.in-In.is c.as_slice-in-In.ensures c.as_slice-in-In-2.ensures)
    (acts_ticked c.in_ok-gen_in-in-In.ensures c.in_ok-emit-in-In.ensures line)

pub gen_in-returns : goal.gen_in-returns
gen_in-returns t c =
    acts_in_row c.args.site c.args.blocks.now (map meaning_of c.args.otherwise.now) c.gen_services.new.addresses c.arms_of-arms.result.now c.has_else.result c.names_of.result.now c.len-end.result c.len-first.result (length c.args.blocks.now)
    c.len-end.ensures c.len-first.ensures refl c.arms_of-arms.ensures c.has_else.ensures c.names_of.ensures (c.in_ok-gen_block.ensures c.args.place) c.in_ok-gen_services.ensures.each c.in_ok-gen_services.ensures.all
    c.in_ok-emit.ensures (c.in_ok-gen_named.ensures c.args.core.now)

pub gen_services-loop-at-init : goal.gen_services-loop-at-init
gen_services-loop-at-init t c = services_begin c.args.ways c.args.to c.args.core.now c.args.place c.args.arms.now c.args.blocks.now c.args.addresses.now _ c.requires

pub gen_services-loop-at-preserved : goal.gen_services-loop-at-preserved
gen_services-loop-at-preserved t c =
    services_step c.args.arms.now c.args.blocks.now c.loop-at.addresses c.push.new.self c.loop-at.at c.len.result c.index-arms-at.result c.as_slice.result.now c.index-blocks-at.result c.loop-at.invariant
    (omega (arith, c.min-count.ensures)) c.index-arms-at.is c.index-blocks-at.is c.as_slice.ensures c.len.ensures c.in_ok-push.ensures.ok c.in_ok-gen_service.ensures

pub gen_services-returns : goal.gen_services-returns
gen_services-returns t c = record { each = c.loop-at.invariant.2; all = omega (arith, c.min-count.ensures, c.loop-at.invariant.0, c.loop-at.invariant.1) }

pub gen_services-gen_service-requires : goal.gen_services-gen_service-requires
gen_services-gen_service-requires t c =
    let found : Some c.as_slice.result.now ≡ slice_get c.args.blocks.now c.loop-at.at = ap (λ block. Some block) c.as_slice.ensures ∙ sym (item_at c.args.blocks.now c.loop-at.at c.index-blocks-at.result (omega (arith, c.min-count.ensures)) c.index-blocks-at.is) in
    let less : 1 + weight_of_block c.as_slice.result.now < t = omega (arith, block_within c.args.blocks.now c.loop-at.at c.as_slice.result.now found) in
    (less, tt)

pub gen_service-returns : goal.gen_service-returns
gen_service-returns t c =
    serves_arm c.args.arm.now (map meaning_of c.args.block.now) (c.in_ok-gen_close.ensures c.args.core.now) (c.in_ok-gen_close-2.ensures c.args.core.now) (c.in_ok-gen_close-3.ensures c.args.core.now)
    (acts_pads c.len-left.ensures c.len-turned.ensures c.len-returned.ensures (c.in_ok-gen_block.ensures c.args.place))
    (c.in_ok-gen_returned.ensures c.args.core.now) (takes_as (ap (λ formals. λ args. make_formals own_scope formals args) (sym c.as_slice.ensures)) (c.in_ok-gen_formals.ensures c.args.core.now))
    (emits_as (ap OpenService (c.in_ok-gives.ensures ∙ ap (λ formals. result_vars formals c.args.arm.now.returned) c.as_slice-2.ensures)) c.in_ok-emit.ensures)

-- ---- co

pub gen_statement-returns-in_ok-emit-in-Co : goal.gen_statement-returns-in_ok-emit-in-Co
gen_statement-returns-in_ok-emit-in-Co t c line =
    acts_as (meaning_co c.args.statement.now c.in-Co.place c.in-Co.arms c.as_slice-in-Co.result.now c.in-Co.is c.as_slice-in-Co.ensures) (acts_ticked c.in_ok-gen_co-in-Co.ensures c.in_ok-emit-in-Co.ensures line)

pub gen_co-returns : goal.gen_co-returns
gen_co-returns t c =
    let size : length (map co_part_of c.args.arms.now) ≡ length c.args.arms.now = simp length-map in
    acts_co (map co_part_of c.args.arms.now) c.gen_replies.new.addresses c.in_ok-emit.ensures c.in_ok-emit-2.ensures (emits_as (ap Jump c.len-to.ensures) c.in_ok-emit-3.ensures) c.in_ok-emit-4.ensures c.in_ok-emit-5.ensures
    (replies_end c.args.arms.now _ _ _ c.len-left.ensures c.len-turned.ensures c.len-returned.ensures c.in_ok-gen_replies.ensures.each)
    (c.in_ok-gen_replies.ensures.all ∙ sym size) (patches_with refl c.len-left.ensures c.patch.ensures) (emits_as (ap Jump c.len-turned.ensures) c.in_ok-emit-6.ensures)
    c.in_ok-emit-7.ensures c.in_ok-gen_calls.ensures c.in_ok-emit-8.ensures

pub gen_replies-loop-at-init : goal.gen_replies-loop-at-init
gen_replies-loop-at-init t c = replies_begin c.args.ways c.args.again c.args.core.now c.args.place c.args.arms.now c.args.addresses.now _ c.requires

pub gen_replies-loop-at-preserved : goal.gen_replies-loop-at-preserved
gen_replies-loop-at-preserved t c =
    replies_step c.args.arms.now c.loop-at.addresses c.push.new.self c.loop-at.at c.len.result c.index-arms-at.result c.loop-at.invariant (omega arith) c.index-arms-at.is c.len.ensures c.in_ok-push.ensures.ok c.in_ok-gen_reply.ensures

pub gen_replies-returns : goal.gen_replies-returns
gen_replies-returns t c = record { each = c.loop-at.invariant.2; all = omega (arith, c.loop-at.invariant.0, c.loop-at.invariant.1) }

pub gen_reply-returns : goal.gen_reply-returns
gen_reply-returns t c =
    completes_as (part_is c.args.arm.now c.as_slice-2.result.now c.as_slice.result.now c.as_slice-2.ensures c.as_slice.ensures)
    (completes_arm _ c.in_ok-vars.ensures c.in_ok-emit.ensures (c.in_ok-gen_block.ensures c.args.place) (c.in_ok-gen_stored.ensures c.args.core.now) c.in_ok-emit-2.ensures)

pub gen_calls-loop-at-init : goal.gen_calls-loop-at-init
gen_calls-loop-at-init t c = calls_begin c.args.core.now c.args.place c.args.arms.now (length c.args.arms.now) _ refl

pub gen_calls-loop-at-preserved : goal.gen_calls-loop-at-preserved
gen_calls-loop-at-preserved t c =
    calls_step c.args.arms.now c.loop-at.at _ c.len-next.result c.index-arms-at.result c.as_slice-quantifiers.result.now c.one_way.result (omega arith) c.loop-at.invariant c.index-arms-at.is c.as_slice-quantifiers.ensures
    c.in_ok-item_number.ensures c.len-next.ensures c.one_way.ensures c.in_ok-gen_quantified.ensures

pub gen_calls-returns : goal.gen_calls-returns
gen_calls-returns t c = calls_end c.args.arms.now c.loop-at.at (omega arith) c.loop-at.invariant.1
