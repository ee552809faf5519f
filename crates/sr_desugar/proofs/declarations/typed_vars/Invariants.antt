-- What there is so far and what the rest adds are what all add.
use Rattle.std.proofs.Common.{drop, ◌++◌, ◌≡◌}
use Rattle.sr_desugar.specs.Declarations.{typed_vars}
use Rattle.sr_desugar.proofs.declarations.typed_vars.Given as goal

abbrev pub invariant-loop-decl : goal.invariant-loop-decl
invariant-loop-decl l =
    l.code ++ typed_vars l.scene l.scope l.place l.ty (drop l.decl-index l.decl-items) l.values
    ≡ l.fn.code ++ typed_vars l.scene l.scope l.place l.ty l.decl-items l.variables.values
