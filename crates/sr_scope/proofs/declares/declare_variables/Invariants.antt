-- The scope and what was noted so far, and what the rest adds, are what the whole list adds.
use Rattle.std.proofs.Common.{◌≡◌, drop, map}
use Rattle.sr_names.specs.declared.meaning.Sort.TheVariants.{Variable}
use Rattle.sr_names.specs.Diagnostics.{all_noted}
use Rattle.sr_scope.specs.Declares.{names_declared, names_twice}
use Rattle.sr_scope.proofs.declares.declare_variables.Given as goal

abbrev pub invariant-loop-decl : goal.invariant-loop-decl
invariant-loop-decl l =
    (names_declared Variable (map (λ decl. decl.name) (drop l.decl-index l.decls)) l.table ≡ names_declared Variable (map (λ decl. decl.name) l.decls) l.fn.table)
    × (all_noted l.diagnostics (names_twice Variable (map (λ decl. decl.name) (drop l.decl-index l.decls)) l.table) ≡ all_noted l.fn.diagnostics (names_twice Variable (map (λ decl. decl.name) l.decls) l.fn.table))
