-- Both ways count the same.
use Rattle.std.proofs.Common.{◌∙◌}
use Rattle.sr_names.proofs.DeclarerLemmas.{along-declarers, undeclared}
use Rattle.sr_names.proofs.place.Place.shown_by_imports.Goals as goal

pub returns-in-None : goal.returns-in-None
returns-in-None c = undeclared c.args.self.now.specs c.args.name.now c.in-None.ensures c.args.self.now.visible

pub returns-then-len : goal.returns-then-len
returns-then-len c =
    c.shown_by_declarers.ensures
    ∙ along-declarers c.args.self.now.specs c.args.name.now c.in-Some.declarers.now c.in-Some.ensures c.len.ensures.distinct c.args.self.now.visible c.len-in-Some.ensures.distinct
