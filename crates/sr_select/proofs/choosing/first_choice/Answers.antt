-- Each invocation that fixes no arm is passed over, and those between that no open arm names with it.
use Rattle.std.proofs.Common.{sym, ◌∙◌, arith}
use Rattle.sr_select.proofs.NamedLemmas.{named-within, next-end, next-none, next-some}
use Rattle.sr_select.proofs.choosing.first_choice.Goals as goal

pub at-pending-requires : goal.at-pending-requires
at-pending-requires g c =
    let selection = c.args.selection.now in
    (named-within selection.owner c.loop-from.closed selection.arms.now selection.queue.now.items c.loop-from.from c.in-Some.place (sym c.next_open-named.ensures ∙ c.in-Some.is)).1

pub loop-from-preserved : goal.loop-from-preserved
loop-from-preserved g c =
    next-none c.loop-from.invariant c.in-Some.place c.at-pending.result.now c.choice_at.new.closed c.choice_at.new.seen (sym c.next_open-named.ensures ∙ c.in-Some.is) c.at-pending.ensures
    (sym c.in_default-2.is ∙ c.in_ok-choice.ensures.choice) c.in_ok-choice.ensures.seen c.in_ok-choice.ensures.closed c.in_ok-choice.ensures.closes

pub overflow_add-from : goal.overflow_add-from
overflow_add-from g c =
    let selection = c.args.selection.now in
    let within = named-within selection.owner c.loop-from.closed selection.arms.now selection.queue.now.items c.loop-from.from c.in-Some.place (sym c.next_open-named.ensures ∙ c.in-Some.is) in
    omega (arith, within.1, c.len.ensures, c.len.type_inv)

pub returns-in-Some-2-clause-choice : goal.returns-in-Some-2-clause-choice
returns-in-Some-2-clause-choice g c =
    (next-some c.loop-from.invariant c.in-Some.place c.at-pending.result.now c.in-Some-2.choice c.choice_at.new.seen (sym c.next_open-named.ensures ∙ c.in-Some.is) c.at-pending.ensures
    (sym c.in-Some-2.is ∙ c.in_ok-choice.ensures.choice) c.in_ok-choice.ensures.seen).0

pub returns-in-Some-2-clause-seen : goal.returns-in-Some-2-clause-seen
returns-in-Some-2-clause-seen g c =
    (next-some c.loop-from.invariant c.in-Some.place c.at-pending.result.now c.in-Some-2.choice c.choice_at.new.seen (sym c.next_open-named.ensures ∙ c.in-Some.is) c.at-pending.ensures
    (sym c.in-Some-2.is ∙ c.in_ok-choice.ensures.choice) c.in_ok-choice.ensures.seen).1

pub loop-from-smaller : goal.loop-from-smaller
loop-from-smaller g c =
    let selection = c.args.selection.now in
    let within = named-within selection.owner c.loop-from.closed selection.arms.now selection.queue.now.items c.loop-from.from c.in-Some.place (sym c.next_open-named.ensures ∙ c.in-Some.is) in
    omega (arith, within.0, within.1)

pub returns-in_default-clause-choice : goal.returns-in_default-clause-choice
returns-in_default-clause-choice g c = (next-end c.loop-from.invariant (sym c.next_open-named.ensures ∙ c.in_default.is)).0

pub returns-in_default-clause-seen : goal.returns-in_default-clause-seen
returns-in_default-clause-seen g c = (next-end c.loop-from.invariant (sym c.next_open-named.ensures ∙ c.in_default.is)).1
