-- What there is so far and what the rest adds are what all add.
use Rattle.std.proofs.Common.{drop, map, ◌++◌, ◌≡◌}
use Rattle.sr_outline.specs.Shapes.{decl_shape}
use Rattle.sr_outline.proofs.shapes.push_decls.Given as goal

abbrev pub invariant-loop-decl : goal.invariant-loop-decl
invariant-loop-decl l =
    l.all ++ map (λ decl. decl_shape l.facts decl.dims l.item) (drop l.decl-index l.decls)
    ≡ l.fn.all ++ map (λ decl. decl_shape l.facts decl.dims l.item) l.decls
