use Rattle.std.proofs.Common.{eqb, position, ap, ◌∙◌}
use Rattle.sr_ask.specs.declared.environment.Out.{Out}
use Rattle.sr_code.proofs.Places.{position_of}
use Rattle.sr_code.proofs.outs.Outs.place_of.Goals as goal

pub returns : goal.returns
returns c =
    c.position.ensures ∙ ap (position (λ id. eqb id c.args.id)) c.self.invariant ∙ position_of (λ (out : Out). out.id) (λ id. eqb id c.args.id) c.self.inside.outs.items
    ∙ ap (position (λ (out : Out). eqb out.id c.args.id)) c.self.view_is
