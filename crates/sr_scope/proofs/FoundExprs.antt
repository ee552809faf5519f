-- The uses that are found in expressions are of the names in them.
use Rattle.std.proofs.Common.{subst, Bool, true, false, List, [], ◌∷◌, Option, Some, None, map, flat_map}
use Rattle.sr_value.specs.declared.place.Span.{Span}
use Rattle.sr_names.specs.declared.meaning.Decl.{Decl}
use Rattle.sr_names.specs.declared.meaning.Meaning.{Meaning}
use Rattle.sr_names.specs.declared.meaning.Sort.{Sort}
use Rattle.sr_names.specs.declared.meaning.Sort.TheVariants.{Variable}
use Rattle.sr_names.specs.declared.place.Blocks.{Blocks}
use Rattle.sr_names.specs.declared.place.Place.{Place}
use Rattle.sr_names.specs.Entries.{Entries}
use Rattle.sr_names.specs.Readings.{reading, twice_unless}
use Rattle.sr_names.specs.Scopes.{denotes, member}
use Rattle.sr_names.specs.Spots.{spot_of}
use Rattle.sr_tree.specs.declared.expr.Create.{Create}
use Rattle.sr_tree.specs.declared.expr.Create.TheOpen.{Create-F, Expr-F}
use Rattle.sr_tree.specs.declared.expr.Expr.{Expr}
use Rattle.sr_tree.specs.declared.expr.Invocation.{Invocation}
use Rattle.sr_tree.specs.declared.name.Name.{Name}
use Rattle.sr_tree.specs.declared.name.QualifiedName.{QualifiedName}
use Rattle.sr_order.specs.Names.{qualified_names, where_some, name_names, create_names, expr_names, invocation_names, part_names}
use Rattle.sr_order.specs.Spans.{joined}
use Rattle.sr_scope.specs.Declares.{name_twice, names_twice, name_declared, returned_twice}
use Rattle.sr_scope.specs.Exprs.{Finds, Reads, expr_reads, create_found, invocation_found, part_found, reads_found, all_found}
use Rattle.sr_scope.specs.Names.{component_named, name_found, field_found, spec_name_found, second_found, qualified_found}
use Rattle.sr_scope.specs.Types.{expr_found, maybe_expr_found}
use Rattle.sr_scope.specs.Declarations.{exprs_found}
use Rattle.sr_tree.proofs.ExprFolds.{ByParts, Claim, CreateNode, ExprNode, InvocationNode, Known, PartNode, bare_create, bare_expr, bare_invocation, bare_part, create_folds, each_create, each_expr, each_invocation, expr_folds, from_create, from_expr, from_invocation, from_part, invocation_folds, part_folds}
use Rattle.sr_order.proofs.NameFolds.{expr_naming}
use Rattle.sr_scope.proofs.FoundFolds.{expr_finding}
use Rattle.sr_scope.proofs.Among.{Among, nothing, both, besides, one_use, one_broken}

-- ---- names

-- a use is at its name
pub reading_among : (meaning : Option Meaning) (span : Span) → Among (reading meaning span ∷ []) (span ∷ [])
reading_among None span = one_broken _ _
reading_among (Some meaning) span = one_use meaning span

pub name_among : (place : Place) (blocks : Blocks) (name : Name) → Among (name_found place blocks name) (name.span ∷ [])
name_among place blocks name = reading_among (denotes place blocks name.text (spot_of name.span)) name.span

pub field_among : (place : Place) (component : Option Decl) (name : Name) → Among (field_found place component name) (name.span ∷ [])
field_among place None name = nothing
field_among place (Some component) name = reading_among (member place component name.text (spot_of name.span)) name.span

spec_name_among : (place : Place) (component : Option Decl) (name : Name) → Among (spec_name_found place component name) (name.span ∷ [])
spec_name_among place None name = one_broken _ _
spec_name_among place (Some component) name = reading_among (member place component name.text (spot_of name.span)) name.span

second_among : (place : Place) (component : Option Decl) (second : Option Name) → Among (second_found place component second) (where_some name_names second)
second_among place component None = nothing
second_among place component (Some name) = spec_name_among place component name

pub qualified_among : (place : Place) (blocks : Blocks) (name : QualifiedName) → Among (qualified_found place blocks name) (qualified_names name)
qualified_among place blocks name = both (name_among place blocks name.first) (second_among place (component_named place blocks name.first) name.second)

-- ---- names that are declared twice are no uses

unless_among : (is_new : Bool) (span : Span) → Among (twice_unless is_new span) []
unless_among true span = nothing
unless_among false span = one_broken _ _

pub twice_among : (sort : Sort) (name : Name) (table : Entries) → Among (name_twice sort name table) []
twice_among sort name table = unless_among _ name.span

pub names_twice_among : (sort : Sort) (names : List Name) (table : Entries) → Among (names_twice sort names table) []
names_twice_among sort [] table = nothing
names_twice_among sort (name ∷ names) table = besides (twice_among sort name table) (names_twice_among sort names (name_declared sort name table))

pub returned_twice_among : (name : Option Name) (table : Entries) → Among (returned_twice name table) []
returned_twice_among None table = nothing
returned_twice_among (Some name) table = twice_among Variable name table

-- ---- expressions with what is known of them

-- what is found is among names
abbrev pub Good : Finds → List Span → Type 0
Good finds names = (place : Place) (blocks : Blocks) → Among (finds place blocks) names

abbrev ExprGood : Reads → List Span → Type 0
ExprGood reads names = (place : Place) (blocks : Blocks) → Among (reads place blocks).found names

abbrev among : Claim
among = record {
  create = λ tree. Good (create_found tree) (create_names tree);
  expr = λ tree. ExprGood (expr_reads tree) (expr_names tree);
  invocation = λ tree. Good (invocation_found tree) (invocation_names tree);
  part = λ tree. Good (part_found tree) (part_names tree);
}

all_good : (place : Place) (blocks : Blocks) (trees : List (Known among.expr))
    → Among (reads_found (map expr_reads (map (λ tree. tree.0) trees)) place blocks) (joined (map expr_names (map (λ tree. tree.0) trees)))
all_good place blocks [] = nothing
all_good place blocks (tree ∷ trees) = both (tree.1 place blocks) (all_good place blocks trees)

parts_good : (place : Place) (blocks : Blocks) (trees : List (Known among.part))
    → Among (all_found (map part_found (map (λ tree. tree.0) trees)) place blocks) (joined (map part_names (map (λ tree. tree.0) trees)))
parts_good place blocks [] = nothing
parts_good place blocks (tree ∷ trees) = both (tree.1 place blocks) (parts_good place blocks trees)

-- ---- each kind of tree from its parts

create_good : (y : CreateNode among) → Good (from_create expr_finding (bare_create among y)) (from_create expr_naming (bare_create among y))
create_good (Create-F.Resource span resource arguments None) place blocks =
    both (qualified_among place blocks resource) (both (all_good place blocks arguments) (nothing {s = []}))
create_good (Create-F.Resource span resource arguments (Some machine)) place blocks =
    both (qualified_among place blocks resource) (both (all_good place blocks arguments) (machine.1 place blocks))
create_good (Create-F.Machine span) place blocks = nothing

expr_good : (y : ExprNode among) → ExprGood (from_expr expr_finding (bare_expr among y)) (from_expr expr_naming (bare_expr among y))
expr_good (Expr-F.Literal span literal) place blocks = nothing
expr_good (Expr-F.Name name) place blocks = name_among place blocks name
expr_good (Expr-F.BasicType span basic) place blocks = nothing
expr_good (Expr-F.Conversion span conversion value) place blocks = value.1 place blocks
expr_good (Expr-F.Group span inner) place blocks = inner.1 place blocks
expr_good (Expr-F.Parts span parts) place blocks = parts_good place blocks parts
expr_good (Expr-F.Field span owner field) place blocks =
    both (owner.1 place blocks) (field_among place (expr_reads owner.0 place blocks).component field)
expr_good (Expr-F.Index span array first None) place blocks =
    both (array.1 place blocks) (both (first.1 place blocks) (nothing {s = []}))
expr_good (Expr-F.Index span array first (Some second)) place blocks =
    both (array.1 place blocks) (both (first.1 place blocks) (second.1 place blocks))
expr_good (Expr-F.Call invocation) place blocks = invocation.1 place blocks
expr_good (Expr-F.Create create) place blocks = create.1 place blocks
expr_good (Expr-F.Unary span operator operand) place blocks = operand.1 place blocks
expr_good (Expr-F.Pending span operation) place blocks = name_among place blocks operation
expr_good (Expr-F.Binary span left operator right) place blocks = both (left.1 place blocks) (right.1 place blocks)

invocation_good : (y : InvocationNode among) → Good (from_invocation expr_finding (bare_invocation among y)) (from_invocation expr_naming (bare_invocation among y))
invocation_good y place blocks = both (y.callee.1 place blocks) (all_good place blocks y.arguments)

part_good : (y : PartNode among) → Good (from_part expr_finding (bare_part among y)) (from_part expr_naming (bare_part among y))
part_good y place blocks = by y.count
  where
    by : (count : Option (Known among.expr))
        → Among (from_part expr_finding (bare_part among (record y { count = count })) place blocks) (from_part expr_naming (bare_part among (record y { count = count })))
    by None = both (nothing {s = []}) (y.value.1 place blocks)
    by (Some count) = both (count.1 place blocks) (y.value.1 place blocks)

-- ---- all trees

by_parts : ByParts among
by_parts = record {
  create = λ y. subst (λ t. t) (λ i. Good (create_folds expr_finding (bare_create among y) i) (create_folds expr_naming (bare_create among y) i)) (create_good y);
  expr = λ y. subst (λ t. t) (λ i. ExprGood (expr_folds expr_finding (bare_expr among y) i) (expr_folds expr_naming (bare_expr among y) i)) (expr_good y);
  invocation = λ y. subst (λ t. t) (λ i. Good (invocation_folds expr_finding (bare_invocation among y) i) (invocation_folds expr_naming (bare_invocation among y) i)) (invocation_good y);
  part = λ y. subst (λ t. t) (λ i. Good (part_folds expr_finding (bare_part among y) i) (part_folds expr_naming (bare_part among y) i)) (part_good y);
}

pub expr_among : (tree : Expr) (place : Place) (blocks : Blocks) → Among (expr_found tree place blocks) (expr_names tree)
expr_among = each_expr among by_parts

pub create_among : (tree : Create) (place : Place) (blocks : Blocks) → Among (create_found tree place blocks) (create_names tree)
create_among = each_create among by_parts

pub invocation_among : (tree : Invocation) (place : Place) (blocks : Blocks) → Among (invocation_found tree place blocks) (invocation_names tree)
invocation_among = each_invocation among by_parts

pub maybe_expr_among : (tree : Option Expr) (place : Place) (blocks : Blocks) → Among (maybe_expr_found tree place blocks) (where_some expr_names tree)
maybe_expr_among None place blocks = nothing
maybe_expr_among (Some tree) place blocks = expr_among tree place blocks

pub exprs_among : (trees : List Expr) (place : Place) (blocks : Blocks) → Among (exprs_found trees place blocks) (flat_map expr_names trees)
exprs_among [] place blocks = nothing
exprs_among (tree ∷ trees) place blocks = both (expr_among tree place blocks) (exprs_among trees place blocks)
