-- A component is found as the map finds its sort.
use Rattle.std.proofs.Common.{None, Some, ◌∙◌}
use Rattle.sr_names.proofs.VisibleLemmas.{component-from_map}
use Rattle.sr_names.proofs.visible.Visible.get.Goals as goal

pub returns-in_err-sort : goal.returns-in_err-sort
returns-in_err-sort c =
    c.from_residual.ensures ∙ component-from_map c.self.inside.sorts.entries c.args.self.now c.args.spot None c.in_err-sort.ensures.value c.self.view_is

pub returns : goal.returns
returns c = component-from_map c.self.inside.sorts.entries c.args.self.now c.args.spot (Some c.in_ok-sort.field-0.now) c.in_ok-sort.ensures.value c.self.view_is
