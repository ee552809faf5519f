-- What is found in declarations.
use Rattle.std.specs.Prelude.{Bool, true, List, [], ◌∷◌, ◌++◌, Option, Some, None, is_some}
use Rattle.sr_names.specs.declared.finding.Finding.{Finding}
use Rattle.sr_names.specs.declared.finding.Rule.TheVariants.{BadType}
use Rattle.sr_tree.specs.declared.component.SpecItem.{SpecItem}
use Rattle.sr_tree.specs.declared.component.SpecItem.TheVariants as spec
use Rattle.sr_tree.specs.declared.declaration.OpItem.{OpItem}
use Rattle.sr_tree.specs.declared.declaration.OpItem.TheVariants.{Signed, Typed as OfType}
use Rattle.sr_tree.specs.declared.declaration.Semaphore.{Semaphore}
use Rattle.sr_tree.specs.declared.expr.Expr.{Expr}
use Rattle.sr_check_expr.specs.declared.facts.Facts.{Facts}
use Rattle.sr_check_expr.specs.Exprs.{infer_expr}
use Rattle.sr_check_expr.specs.Typings.{Typing, valued, broken_unless}
use Rattle.sr_check_expr.specs.Naming.{decl_info}
use Rattle.sr_check_decl.specs.Bounds.{int_rule}
use Rattle.sr_check_decl.specs.Constants.{const_found}
use Rattle.sr_check_decl.specs.Declaring.{optype_of}
use Rattle.sr_check_decl.specs.TypeTrees.{fixed_bounds, type_kinding, signature_read, named_decl}
use Rattle.sr_check_decl.specs.Variables.{var_found}

-- ---- operations

-- after `:` stands the name of the type of an operation
abbrev pub op_found : Facts → OpItem → List Finding
op_found facts (Signed span name signature) = (signature_read signature facts).found
op_found facts (OfType span name optype) = broken_unless (is_some (optype_of (decl_info facts.infos (named_decl facts optype)))) BadType span

abbrev pub ops_found : Facts → List OpItem → List Finding
ops_found facts [] = []
ops_found facts (op ∷ ops) = op_found facts op ++ ops_found facts ops

-- a semaphore begins with an int
abbrev pub count_found : Typing → List Finding
count_found count = valued count ++ broken_unless (int_rule count.typed_expr.typed) BadType count.typed_expr.span

abbrev pub initial_found : Facts → Option Expr → List Finding
initial_found facts None = []
initial_found facts (Some value) = count_found (infer_expr value facts)

abbrev pub sems_found : Facts → List Semaphore → List Finding
sems_found facts [] = []
sems_found facts (semaphore ∷ more) = initial_found facts semaphore.value ++ sems_found facts more

-- ---- items of specs

abbrev pub spec_item_found : Bool → Facts → SpecItem → List Finding
spec_item_found in_spec facts (spec.Import imports) = []
spec_item_found in_spec facts (spec.Const constant) = const_found in_spec facts constant
spec_item_found in_spec facts (spec.«Type» named) = (type_kinding named.ty facts fixed_bounds).found
spec_item_found in_spec facts (spec.OpType named) = (signature_read named.signature facts).found
spec_item_found in_spec facts (spec.Op operations) = ops_found facts operations.items
spec_item_found in_spec facts (spec.Var variables) = var_found facts variables
spec_item_found in_spec facts (spec.Sem semaphores) = sems_found facts semaphores.semaphores

abbrev pub spec_items_found : Facts → List SpecItem → List Finding
spec_items_found facts [] = []
spec_items_found facts (inner ∷ more) = spec_item_found true facts inner ++ spec_items_found facts more
