use Rattle.std.proofs.Common.{◌&&◌, ◌∙◌, ap, sym}
use Rattle.sr_replay.proofs.NameLemmas.{named-new}
use Rattle.sr_world.specs.Steps.{does}
use Rattle.sr_replay.proofs.names.may_have.Goals as goal

pub returns-then-is_unused-clause-named : goal.returns-then-is_unused-clause-named
returns-then-is_unused-clause-named c = λ knows actor.
    ap (λ b. b && c.is_new.result) (sym c.if-is_unused.true)
    ∙ named-new c.args.names.now c.args.world.now knows c.args.name c.is_unused.result c.is_new.result c.is_unused.ensures c.is_new.ensures.new.1
    (does c.args.core.now c.args.world.now actor c.args.ask.now c.args.name) (sym (c.makes.ensures actor c.args.name) ∙ c.if-makes.true)
