-- What there is so far and what the rest adds are what all add.
use Rattle.std.proofs.Common.{drop, ◌++◌, ◌≡◌}
use Rattle.sr_desugar.specs.Declarations.{untyped_vars}
use Rattle.sr_desugar.proofs.declarations.untyped_vars.Given as goal

abbrev pub invariant-loop-decl : goal.invariant-loop-decl
invariant-loop-decl l =
    l.code ++ untyped_vars l.scene l.scope l.place (drop l.decl-index l.decl-items) l.values
    ≡ l.fn.code ++ untyped_vars l.scene l.scope l.place l.decl-items l.variables.values
