use Rattle.std.proofs.Common.{◌≡◌, ◌≤◌, [], ◌∷◌, ◌++◌, length, ap, sym, arith}
use Rattle.std.proofs.lemmas.List.{length_push}
use Rattle.sr_queue.specs.Queues.{Queued}
use Rattle.sr_queue.specs.declared.queue.TheConstants.{MOST_PENDING}
use Rattle.sr_queue.proofs.queue.Queue.push.Goals as goal

pub invariant_of-self : goal.invariant_of-self
invariant_of-self c =
    let items = c.self.inside.pending.items in
    let pushed : c.push_reserved.new.self.items ≡ items ++ c.args.pending ∷ [] = c.push_reserved.ensures in
    let same : length items ≡ length c.make_room.new.self.items = ap (λ (q : Queued). length q.items) c.self.view_is in
    let few : length c.push_reserved.new.self.items ≤ MOST_PENDING = omega (arith, ap length pushed, length_push items c.args.pending, same, ap length c.in-Ok.ensures.items, c.requires) in
    (few, c.note_last.ensures items c.args.pending pushed (sym c.class_of-class.ensures) c.self.invariant.1)
