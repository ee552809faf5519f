-- What is found in declarations, apart from the names that they declare.
use Rattle.std.specs.Prelude.{List, [], ◌∷◌, ◌++◌, map}
use Rattle.sr_names.specs.declared.meaning.Sort.TheVariants.{Quantifier as quantifier_sort}
use Rattle.sr_names.specs.declared.place.Blocks.{Blocks}
use Rattle.sr_names.specs.Entries.{Entries}
use Rattle.sr_tree.specs.declared.declaration.ConstDecl.{ConstDecl}
use Rattle.sr_tree.specs.declared.declaration.OpItem.{OpItem}
use Rattle.sr_tree.specs.declared.declaration.OpItem.TheVariants.{Signed, Typed}
use Rattle.sr_tree.specs.declared.declaration.Semaphore.{Semaphore}
use Rattle.sr_tree.specs.declared.declaration.VarDecl.{VarDecl}
use Rattle.sr_tree.specs.declared.expr.Expr.{Expr}
use Rattle.sr_tree.specs.declared.name.Name.{Name}
use Rattle.sr_tree.specs.declared.statement.Quantifier.{Quantifier}
use Rattle.sr_scope.specs.Declares.{name_declared, name_twice, names_declared}
use Rattle.sr_scope.specs.Exprs.{Finds, expr_reads, reads_found}
use Rattle.sr_scope.specs.Names.{qualified_found}
use Rattle.sr_scope.specs.Types.{expr_found, maybe_expr_found, maybe_type_found, decls_found, signature_read, signed_found}

-- these scopes with another innermost one
abbrev pub with_inner : Blocks → Entries → Blocks
with_inner blocks table = record blocks { inner = table }

abbrev pub exprs_found : List Expr → Finds
exprs_found exprs place blocks = reads_found (map expr_reads exprs) place blocks

abbrev pub const_found : ConstDecl → Finds
const_found constant place blocks = maybe_type_found constant.ty place blocks ++ expr_found constant.value place blocks

abbrev pub var_found : VarDecl → Finds
var_found variables place blocks =
    decls_found variables.decls place blocks ++ (maybe_type_found variables.ty place blocks ++ exprs_found variables.values place blocks)

abbrev pub var_names : VarDecl → List Name
var_names variables = map (λ decl. decl.name) variables.decls

abbrev pub semaphores_found : List Semaphore → Finds
semaphores_found [] place blocks = []
semaphores_found (semaphore ∷ more) place blocks = maybe_expr_found semaphore.value place blocks ++ semaphores_found more place blocks

abbrev pub op_item_found : OpItem → Finds
op_item_found (Signed span name signature) place blocks = signed_found (signature_read signature) place blocks
op_item_found (Typed span name optype) place blocks = qualified_found place blocks optype

abbrev pub op_items_found : List OpItem → Finds
op_items_found [] place blocks = []
op_items_found (item ∷ more) place blocks = op_item_found item place blocks ++ op_items_found more place blocks

-- the bounds and the step of a quantifier don't see its name
abbrev pub bounds_found : Quantifier → Finds
bounds_found quantifier place blocks =
    expr_found quantifier.first place blocks ++ (expr_found quantifier.last place blocks ++ maybe_expr_found quantifier.step place blocks)

abbrev pub with_quantifier : Quantifier → Blocks → Blocks
with_quantifier quantifier blocks = with_inner blocks (name_declared quantifier_sort quantifier.name blocks.inner)

abbrev pub with_quantifiers : List Quantifier → Blocks → Blocks
with_quantifiers quantifiers blocks = with_inner blocks (names_declared quantifier_sort (map (λ quantifier. quantifier.name) quantifiers) blocks.inner)

-- the condition of a quantifier and the quantifiers after it see its name
abbrev pub quantifier_found : Quantifier → Finds
quantifier_found quantifier place blocks =
    bounds_found quantifier place blocks
    ++ (name_twice quantifier_sort quantifier.name blocks.inner ++ maybe_expr_found quantifier.such_that place (with_quantifier quantifier blocks))

abbrev pub quantifiers_found : List Quantifier → Finds
quantifiers_found [] place blocks = []
quantifiers_found (quantifier ∷ more) place blocks = quantifier_found quantifier place blocks ++ quantifiers_found more place (with_quantifier quantifier blocks)
