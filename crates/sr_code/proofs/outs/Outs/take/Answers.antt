use Rattle.std.proofs.Common.{◌<◌, length, map, ap, sym, subst, ◌∙◌}
use Rattle.std.specs.List.{remove}
use Rattle.sr_ask.specs.declared.environment.Out.{Out}
use Rattle.sr_code.proofs.Places.{remove_of, stood_there}
use Rattle.sr_code.proofs.outs.Outs.take.Goals as goal

pub invariant_of-self-2 : goal.invariant_of-self-2
invariant_of-self-2 c =
    let within = subst (λ xs. c.args.at < length xs) (sym c.self.view_is) c.requires in
    let gone = stood_there c.self.inside.outs.items c.args.at c.remove-2.result within c.remove-2.ensures.item c.remove-2.ensures.others in
    c.in_ok-remove.ensures.ok ∙ ap (λ xs. remove xs c.args.at) c.self.invariant ∙ remove_of (λ (out : Out). out.id) c.self.inside.outs.items c.args.at ∙ ap (map (λ (out : Out). out.id)) (sym gone)

pub returns-clause-others : goal.returns-clause-others
returns-clause-others c =
    let within = subst (λ xs. c.args.at < length xs) (sym c.self.view_is) c.requires in
    stood_there c.self.inside.outs.items c.args.at c.remove-2.result within c.remove-2.ensures.item c.remove-2.ensures.others
    ∙ ap (λ xs. remove xs c.args.at) c.self.view_is
