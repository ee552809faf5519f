-- The scene and the code are those that there are.
use Rattle.std.proofs.Common.{◌≡◌, IfOk, subst}
use Rattle.sr_desugar.specs.declared.bodies.Codes.{Codes}
use Rattle.sr_lower_expr.specs.declared.scene.Scene.{Scene}
use Rattle.sr_desugar.specs.Core.{component_with}
use Rattle.sr_desugar.proofs.program.component_core.Goals as goal

pub returns-clause-value : goal.returns-clause-value
returns-clause-value c =
    subst (λ (codes : Codes). IfOk c.component_with.result (λ made. made ≡ component_with c.args.scene.now c.args.imports.now c.args.component.now codes))
    c.in_ok-codes.ensures.codes
    (subst (λ (scene : Scene). IfOk c.component_with.result (λ made. made ≡ component_with scene c.args.imports.now c.args.component.now c.in_ok-codes.codes))
    c.in_ok-codes.ensures.scene c.component_with.ensures)
