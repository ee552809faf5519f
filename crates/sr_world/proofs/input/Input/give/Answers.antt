use Rattle.std.proofs.Common.{ap, ◌∙◌}
use Rattle.sr_world.specs.Parts.{begins_at, ends_at}
use Rattle.sr_world.proofs.LookLemmas.{given_as}
use Rattle.sr_world.proofs.input.Input.give.Goals as goal

pub invariant_of-self-2 : goal.invariant_of-self-2
invariant_of-self-2 c =
    given_as c.self.inside.bytes c.self.inside.at c.self.inside.token c.self.inside.end c.self.invariant c.args.bytes.now c.push_all.new.self
    c.begin_of-self-inside.result c.end_of-self-inside.result c.in_ok-push_all.ensures.ok
    (c.begin_of-self-inside.ensures.begins ∙ ap (λ bytes. begins_at bytes c.self.inside.token c.self.inside.end) c.as_bytes.ensures)
    (c.end_of-self-inside.ensures ∙ ap (λ bytes. ends_at bytes c.begin_of-self-inside.result c.self.inside.end) c.as_bytes-2.ensures)
