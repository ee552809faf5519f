-- The row of a link's beginning has one more target.
use Rattle.std.proofs.Common.{[], unwrap_or, ap, ◌∙◌}
use Rattle.std.specs.Map.{lookup}
use Rattle.indexmap.specs.IndexMap.{insert_entry}
use Rattle.sr_names.specs.Spots.{same_spot}
use Rattle.sr_names.specs.Targets.{targets_of}
use Rattle.sr_names.proofs.Grouping.{targets-added}
use Rattle.sr_names.proofs.targets.Targets.add.Goals as goal

pub returns : goal.returns
returns c =
    targets-added c.args.self.now c.insert.new.self.entries c.insert-2.new.self.entries c.args.link c.unwrap_or-ends.result
    (c.in_ok-held.ensures.entries ∙ ap (λ r. insert_entry same_spot c.self.inside.ends.entries c.args.link.from r) c.new.ensures
    ∙ ap (λ es. insert_entry same_spot es c.args.link.from []) c.self.view_is)
    (c.unwrap_or-ends.ensures ∙ ap (λ o. unwrap_or o c.new-2.result) c.in_ok-held.ensures.old
    ∙ ap (λ d. unwrap_or (lookup (same_spot c.args.link.from) c.self.inside.ends.entries) d) c.new-2.ensures
    ∙ ap (λ es. targets_of es c.args.link.from) c.self.view_is)
    (c.in_ok-insert.ensures.entries ∙ ap (λ r. insert_entry same_spot c.insert.new.self.entries c.args.link.from r) c.in_ok-push.ensures.ok)
