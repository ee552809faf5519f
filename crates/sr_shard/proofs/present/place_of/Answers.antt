use Rattle.std.proofs.Common.{arith, sym}
use Rattle.std.proofs.lemmas.Bool.{eq-eqb, ne_eqb}
use Rattle.std.specs.Prelude.{drop}
use Rattle.sr_queue.specs.Queues.{is_of}
use Rattle.sr_queue.proofs.QueueLemmas.{next-within, position-within}
use Rattle.sr_shard.proofs.DepartLemmas.{after_none, it_is_here, nowhere, past_it}
use Rattle.sr_shard.proofs.present.place_of.Goals as goal

pub seeking-init : goal.seeking-init
seeking-init c = after_none c.args.owner c.args.op c.args.id c.args.queue.now.items

pub at-requires : goal.at-requires
at-requires c = next-within c.args.owner c.args.op c.seeking.from c.args.queue.now.items c.in-Some.place (sym c.in-Some.ensures)

pub overflow_add-from : goal.overflow_add-from
overflow_add-from c =
    let within = next-within c.args.owner c.args.op c.seeking.from c.args.queue.now.items c.in-Some.place (sym c.in-Some.ensures) in
    let len = c.len-len.ensures in omega arith

pub seeking-preserved : goal.seeking-preserved
seeking-preserved c =
    past_it c.args.owner c.args.op c.args.id c.args.queue.now.items c.seeking.from c.in-Some.place c.at.result.now c.seeking.invariant (sym c.in-Some.ensures) c.at.ensures (ne_eqb c.at.result.now.id c.args.id c.if-at-id.false)

pub seeking-smaller : goal.seeking-smaller
seeking-smaller c =
    let within = next-within c.args.owner c.args.op c.seeking.from c.args.queue.now.items c.in-Some.place (sym c.in-Some.ensures) in
    let after = position-within (is_of c.args.owner c.args.op) c.seeking.from (drop c.seeking.from c.args.queue.now.items) c.in-Some.place (sym c.in-Some.ensures) in
    omega (arith, after.0)

pub returns-then-at-id-clause-found : goal.returns-then-at-id-clause-found
returns-then-at-id-clause-found c =
    it_is_here c.args.owner c.args.op c.args.id c.args.queue.now.items c.seeking.from c.in-Some.place c.at.result.now c.seeking.invariant (sym c.in-Some.ensures) c.at.ensures (eq-eqb c.at.result.now.id c.args.id c.if-at-id.true)

pub returns-clause-none : goal.returns-clause-none
returns-clause-none c = nowhere c.args.owner c.args.op c.args.id c.args.queue.now.items c.seeking.from c.seeking.invariant (sym c.in_default.ensures)
