use Rattle.std.proofs.Common.{◌≡◌, map, ap, subst, ◌∙◌}
use Rattle.sr_queue.specs.Classes.{class_in, class_of, next_among, next_waiting}
use Rattle.sr_queue.specs.Indexed.{IsIndexed}
use Rattle.sr_queue.specs.Queues.{Queued}
use Rattle.sr_queue.proofs.QueueLemmas.{next-indexed, next-small}
use Rattle.sr_queue.proofs.queue.Queue.next_place.Goals as goal

found_there : (c : goal.After-next_of) → c.next_of.result ≡ next_waiting c.args.owner c.args.op c.args.from c.self.inside.pending.items
found_there c =
    let items = c.self.inside.pending.items in
    let is : c.in-Some.index ≡ map class_in items = subst (IsIndexed items) c.in-Some.is c.self.invariant.1 in
    c.next_of.ensures ∙ ap (λ class. next_among class c.args.from c.in-Some.index) c.class_of.ensures ∙ ap (next_among (class_of c.args.owner c.args.op) c.args.from) is
    ∙ next-indexed c.args.owner c.args.op c.args.from items

pub returns-in-Some-clause-next : goal.returns-in-Some-clause-next
returns-in-Some-clause-next c = found_there c ∙ ap (λ (q : Queued). next_waiting c.args.owner c.args.op c.args.from q.items) c.self.view_is

pub returns-in-Some-clause-small : goal.returns-in-Some-clause-small
returns-in-Some-clause-small c = next-small c.args.owner c.args.op c.args.from c.self.inside.pending.items c.next_of.result (found_there c) c.self.invariant.0

pub returns-in-None-clause-small : goal.returns-in-None-clause-small
returns-in-None-clause-small c = next-small c.args.owner c.args.op c.args.from c.self.inside.pending.items c.found.result c.found.ensures c.self.invariant.0
