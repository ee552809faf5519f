use Rattle.std.proofs.Common.{◌∷◌, [], ◌++◌, ap, ◌∙◌}
use Rattle.sr_world.specs.Parts.{People, people_of, without_all}
use Rattle.sr_world.specs.Worlds.{World}
use Rattle.sr_world.specs.contracts.world.World.{the_view}
use Rattle.sr_world.proofs.PartLemmas.{ended_as, same_people}
use Rattle.sr_world.proofs.world.World.end_instance.Goals as goal

pub returns-clause-ok : goal.returns-clause-ok
returns-clause-ok c =
    let view : World = the_view c.self.inside in
    let after : People = people_of c.end_processes.new.processes c.end_processes.new.calls in
    ended_as c.args.name c.args.instance c.args.duty c.new.result view c.args.self.now c.as_slice.result.now after
    c.answer_reserved.new.calls.held c.answer_reserved.new.calls.replies c.set_state.new.places c.push.new.self.names
    c.self.view_is (c.as_slice.ensures ∙ c.in_ok-numbers.ensures) c.new.ensures
    (c.end_processes.ensures.people
    ∙ ap (λ p. without_all p c.as_slice.result.now) (same_people c.self.inside.processes c.self.inside.calls c.reserve_reply.new.calls c.in_ok-reserve_reply.ensures.held c.in_ok-reserve_reply.ensures.replies))
    c.answer_reserved.ensures.held c.answer_reserved.ensures.replies c.set_state.ensures
    (c.push.ensures ∙ ap (λ ns. ns ++ c.args.name ∷ []) c.in_ok-reserve.ensures.names)
