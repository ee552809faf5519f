-- What there is so far and what the rest adds are what all add.
use Rattle.std.proofs.Common.{drop, map, ◌++◌, ◌≡◌}
use Rattle.sr_outline.specs.Shapes.{formal_shape}
use Rattle.sr_tree.specs.declared.types.Formal.{out-Formal}
use Rattle.sr_outline.proofs.heads.push_parameters.Given as goal

abbrev pub invariant-loop-decl : goal.invariant-loop-decl
invariant-loop-decl l =
    l.all ++ map (λ decl. record { mode = l.mode; shape = formal_shape l.facts l.table decl.dims (out-Formal l.formal).ty }) (drop l.decl-index l.decl-items)
    ≡ l.fn.all ++ map (λ decl. record { mode = l.mode; shape = formal_shape l.facts l.table decl.dims (out-Formal l.formal).ty }) l.decl-items
