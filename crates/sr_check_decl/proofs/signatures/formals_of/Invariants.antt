-- The formals so far and those of the rest are all formals.
use Rattle.std.proofs.Common.{◌≡◌, ◌++◌, drop}
use Rattle.sr_check_decl.specs.TypeTrees.{formals_of}
use Rattle.sr_check_decl.proofs.signatures.formals_of.Given as goal

abbrev pub invariant-loop-decl : goal.invariant-loop-decl
invariant-loop-decl l = l.params ++ formals_of l.mode l.ty (drop l.decl-index l.decls) ≡ formals_of l.mode l.ty l.decls
