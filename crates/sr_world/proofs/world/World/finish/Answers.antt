use Rattle.std.proofs.Common.{◌≡◌, ap, refl, rules, ◌∙◌}
use Rattle.sr_world.specs.Answering.{duty_held}
use Rattle.sr_world.specs.Invoking.{instance_of_process}
use Rattle.sr_world.specs.Parts.{People, numbers_after, people_of, without_all, without_one}
use Rattle.sr_world.specs.Worlds.{World}
use Rattle.sr_world.specs.contracts.world.World.{the_view}
use Rattle.sr_world.proofs.PartLemmas.{finish_as, same_people}
use Rattle.sr_world.proofs.world.World.finish.Goals as goal

pub returns : goal.returns
returns c =
    let view : World = the_view c.self.inside in
    let now : World = c.args.self.now in
    let after : People = people_of c.end_processes.new.processes c.end_processes.new.calls in
    let duty : c.duty_held-duty.result ≡ duty_held now c.args.actor c.args.actor = search rules in
    let instance : c.instance_of_process-instance.result ≡ instance_of_process now c.args.actor = search rules in
    let others : c.in_ok-others.others.items ≡ numbers_after c.args.role c.args.actor c.args.back now = search rules in (
      finish_as c.args.role c.args.actor c.args.back c.args.answered c.args.results.now c.in_ok-results.results view now now now now
          c.duty_held-duty.result c.instance_of_process-instance.result c.as_slice.result.now after c.answer_unless.new.calls.held c.answer_unless.new.calls.replies c.set_after.new.places
          duty instance (c.as_slice.ensures.value ∙ others) c.in_ok-results.ensures
          refl refl refl c.self.view_is
          (c.end_processes.ensures.people
          ∙ ap (λ p. without_all p c.as_slice.result.now)
          (c.end_process.ensures.people
          ∙ ap (λ p. without_one p c.args.actor) (same_people c.self.inside.processes c.self.inside.calls c.reserve_reply.new.calls c.in_ok-reserve_reply.ensures.held c.in_ok-reserve_reply.ensures.replies)))
          c.answer_unless.ensures.held c.answer_unless.ensures.replies c.set_after.ensures,
      refl,
    )
