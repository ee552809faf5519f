use Rattle.std.proofs.Common.{None, Some, ap, cond, refl, ◌∙◌}
use Rattle.std.specs.HashMap.{get}
use Rattle.sr_queue.specs.Classes.{same_class}
use Rattle.sr_plain.specs.declared.waiters.Waiters.{Waiters}
use Rattle.sr_plain.specs.declared.waiters.Waiting.TheVariants.{Many}
use Rattle.sr_plain.proofs.CrowdLemmas.{put-back}
use Rattle.sr_plain.proofs.waiters.Waiters.put_back.Goals as goal

pub returns-in_ok-insert-in-Some : goal.returns-in_ok-insert-in-Some
returns-in_ok-insert-in-Some c =
    let old : Waiters = c.args.self.now in
    let new : Waiters = record old { idle = c.insert.new.self } in
    let joined = c.in_ok-join_waiting-in-Some.ensures in
    let removed = c.remove.ensures.updates in
    let inserted = c.in_ok-insert-in-Some.ensures.updates in
    put-back c.args.class (Some c.in-Some.waiting) c.args.processes c.join_waiting.new.ready old new c.in-Some.ensures.value (λ k off. inserted.2 k off ∙ removed.2 k off)
    (λ k same. inserted.0 k ∙ ap (λ b. cond b (Some (Many c.join_waiting.new.ready)) (get same_class c.remove.new.self k)) same) (λ q off. (joined.ready q off, joined.joined q off)) refl refl refl refl refl

pub returns-in_ok-insert-in-None : goal.returns-in_ok-insert-in-None
returns-in_ok-insert-in-None c =
    let old : Waiters = c.args.self.now in
    let new : Waiters = record old { idle = c.insert-in-None.new.self } in
    let removed = c.remove.ensures.updates in
    let inserted = c.in_ok-insert-in-None.ensures.updates in
    put-back c.args.class None c.args.processes c.args.processes old new c.in-None.ensures.value (λ k off. inserted.2 k off ∙ removed.2 k off)
    (λ k same. inserted.0 k ∙ ap (λ b. cond b (Some (Many c.args.processes)) (get same_class c.remove.new.self k)) same) (λ q off. (off, refl)) refl refl refl refl refl
