-- Which names an expression needs.
use Rattle.std.specs.Prelude.{Bool, true, List, [], ◌∷◌, ◌++◌, Option, Some, None, is_some}
use Rattle.std.specs.List.{list_all}
use Rattle.sr_value.specs.declared.place.Span.{Span}
use Rattle.sr_names.specs.declared.meaning.Decl.{Decl}
use Rattle.sr_names.specs.Spots.{spot_of}
use Rattle.sr_names.specs.Uses.{meaning_at}
use Rattle.sr_tree.specs.declared.expr.Create.{Create, fold-Create}
use Rattle.sr_tree.specs.declared.expr.Create.TheOpen.{Create-F, Expr-F, Invocation-F, Part-F}
use Rattle.sr_tree.specs.declared.expr.Expr.{Expr, fold-Expr}
use Rattle.sr_tree.specs.declared.expr.Invocation.{Invocation, fold-Invocation}
use Rattle.sr_tree.specs.declared.expr.Part.{Part, fold-Part}
use Rattle.sr_check_expr.specs.declared.facts.Facts.{Facts}
use Rattle.sr_check_expr.specs.Infos.{info_at}
use Rattle.sr_check_expr.specs.Naming.{decl_of}

abbrev pub concat_spans : List (List Span) → List Span
concat_spans [] = []
concat_spans (spans ∷ more) = spans ++ concat_spans more

abbrev pub maybe_spans : Option (List Span) → List Span
maybe_spans None = []
maybe_spans (Some spans) = spans

abbrev pub create_names : Create-F (List Span) (List Span) (List Span) (List Span) → List Span
create_names (Create-F.Resource span resource arguments machine) = concat_spans arguments ++ maybe_spans machine
create_names (Create-F.Machine span) = []

abbrev pub expr_names : Expr-F (List Span) (List Span) (List Span) (List Span) → List Span
expr_names (Expr-F.Literal span literal) = []
expr_names (Expr-F.Name name) = name.span ∷ []
expr_names (Expr-F.BasicType span basic) = []
expr_names (Expr-F.Conversion span conversion value) = value
expr_names (Expr-F.Group span inner) = inner
expr_names (Expr-F.Parts span parts) = concat_spans parts
expr_names (Expr-F.Field span owner field) = owner ++ field.span ∷ []
expr_names (Expr-F.Index span array first second) = array ++ (first ++ maybe_spans second)
expr_names (Expr-F.Call invocation) = invocation
expr_names (Expr-F.Create create) = create
expr_names (Expr-F.Unary span operator operand) = operand
expr_names (Expr-F.Pending span operation) = operation.span ∷ []
expr_names (Expr-F.Binary span left operator right) = left ++ right

abbrev pub invocation_names : Invocation-F (List Span) (List Span) (List Span) (List Span) → List Span
invocation_names invocation = invocation.callee ++ concat_spans invocation.arguments

abbrev pub part_names : Part-F (List Span) (List Span) (List Span) (List Span) → List Span
part_names part = maybe_spans part.count ++ part.value

-- the names that are used in an expression; the component of a `create` needs no type
abbrev pub names_in : Expr → List Span
names_in = fold-Expr (List Span) (List Span) (List Span) (List Span) create_names expr_names invocation_names part_names

abbrev pub names_in_create : Create → List Span
names_in_create = fold-Create (List Span) (List Span) (List Span) (List Span) create_names expr_names invocation_names part_names

abbrev pub names_in_invocation : Invocation → List Span
names_in_invocation = fold-Invocation (List Span) (List Span) (List Span) (List Span) create_names expr_names invocation_names part_names

abbrev pub names_in_part : Part → List Span
names_in_part = fold-Part (List Span) (List Span) (List Span) (List Span) create_names expr_names invocation_names part_names

abbrev pub is_declared : Facts → Option Decl → Bool
is_declared facts None = true
is_declared facts (Some decl) = is_some (info_at facts.infos decl.spot)

abbrev pub is_named_declared : Facts → Span → Bool
is_named_declared facts span = is_declared facts (decl_of (meaning_at facts.uses (spot_of span)))

-- whether all that an expression names is declared
abbrev pub is_ready : Facts → Expr → Bool
is_ready facts expr = list_all (is_named_declared facts) (names_in expr)
