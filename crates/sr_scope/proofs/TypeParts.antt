-- What holds of the names, of the enumerations and records, and of the literals in a written type follows from what holds of each part.
use Rattle.std.proofs.Common.{List, [], ◌∷◌, ◌++◌, Option, Some, None, map, flat_map}
use Rattle.sr_value.specs.declared.place.Span.{Span}
use Rattle.sr_tree.specs.declared.name.Name.{Name}
use Rattle.sr_tree.specs.declared.types.Formal.{Formal}
use Rattle.sr_tree.specs.declared.types.Returned.{Returned}
use Rattle.sr_tree.specs.declared.types.Signature.{Signature}
use Rattle.sr_tree.specs.declared.types.TypeTree.{TypeTree}
use Rattle.sr_tree.specs.declared.types.TypeTree.TheOpen.{TypeTree-F}
use Rattle.sr_tree.specs.declared.types.TypeTree.TheVariants as ty
use Rattle.sr_tree.specs.Nested.{Holds, all_trees, all_types, formal_types, returned_types, types_within}
use Rattle.sr_order.specs.Names.{decl_names, dims_names, expr_names, formal_names, names_spans, qualified_names, returned_names, type_names, where_some}
use Rattle.sr_order.specs.Spans.{joined}
use Rattle.sr_scope.specs.Literals.{all_literals, formal_literals, formal_step as formal_brings, literals_of, returned_literals, returned_step as returned_brings, signature_step as signature_brings, type_step as type_brings}
use Rattle.sr_order.proofs.NameFolds.{type_naming}
use Rattle.sr_tree.proofs.Nested.{formal_held, held_fold}
use Rattle.sr_tree.proofs.TypeFolds.{type_related, FormalFits, FormalNode, KnownFormal, KnownReturned, Related, ReturnedFits, ReturnedNode, SignatureFits, SignatureNode, TypeFits, TypeFold, TypeNode}

-- ---- the folds

abbrev literals_fold : TypeFold
literals_fold = record {
  OfType = List Name;
  OfFormal = List Name;
  OfReturned = List Name;
  OfSignature = List Name;
  type_step = type_brings;
  formal_step = formal_brings;
  returned_step = returned_brings;
  signature_step = signature_brings;
}

-- ---- what holds of each part

pub record Parts (P : List Span → List TypeTree → List Name → Type 0) : Type 0 where
  pub others : (names : List Span) → P names [] []
  pub both : (s t : List Span) (a b : List TypeTree) (x y : List Name) → P s a x → P t b y → P (s ++ t) (a ++ b) (x ++ y)
  pub enumeration : (span : Span) (literals : List Name) → P (span ∷ names_spans literals) (ty.Enum span literals ∷ []) literals
  pub fields_in : (span : Span) (fields : List Formal) (names : List Span) (types : List TypeTree) (literals : List Name) → P names types literals → P (span ∷ names) (ty.Rec span fields ∷ types) literals

module _ (P : List Span → List TypeTree → List Name → Type 0) (parts : Parts P) where
  abbrev related : Related
  related = record {
    first = type_naming;
    second = held_fold;
    third = literals_fold;
    Types = λ names (held : Holds TypeTree) literals. P names held.types literals;
    Formals = λ names (held : Holds Formal) literals. P names held.types literals;
    Returns = λ names (held : Holds Returned) literals. P names held.types literals;
    Signatures = λ names (held : Holds Signature) literals. P names held.types literals;
  }

  abbrev trees_of : List (KnownFormal related) → List Formal
  trees_of formals = map (λ (tree : KnownFormal related). tree.0) formals

  abbrev names_in : List (KnownFormal related) → List Span
  names_in formals = joined (map formal_names (trees_of formals))

  abbrev types_in : List (KnownFormal related) → List TypeTree
  types_in formals = all_types (map formal_held (trees_of formals))

  abbrev literals_in : List (KnownFormal related) → List Name
  literals_in formals = all_literals (map formal_literals (trees_of formals))

  -- names before those
  after : (names s : List Span) (a : List TypeTree) (x : List Name) → P s a x → P (names ++ s) a x
  after names s a x known = parts.both names s [] a [] x (parts.others names) known

  row : (formals : List (KnownFormal related)) → P (names_in formals) (types_in formals) (literals_in formals)
  row [] = parts.others []
  row (formal ∷ formals) = parts.both (formal_names formal.0) (names_in formals) (formal_types formal.0) (types_in formals) (formal_literals formal.0) (literals_in formals) formal.1 (row formals)

  type_layer : (y : TypeNode related) → TypeFits related y
  type_layer (TypeTree-F.Str span length) = parts.others (where_some expr_names length)
  type_layer (TypeTree-F.Enum span literals) = parts.enumeration span literals
  type_layer (TypeTree-F.Rec span fields) = parts.fields_in span (all_trees (map formal_held (trees_of fields))) (names_in fields) (types_in fields) (literals_in fields) (row fields)
  type_layer (TypeTree-F.CapOf span name) = parts.others (qualified_names name)
  type_layer (TypeTree-F.CapOperation span signature) = signature.1
  type_layer (TypeTree-F.Array span dims item) = after (dims_names dims) (type_names item.0) (types_within item.0) (literals_of item.0) item.1
  type_layer (TypeTree-F.Named span name) = parts.others (qualified_names name)
  type_layer _ = parts.others []

  formal_layer : (y : FormalNode related) → FormalFits related y
  formal_layer y = after (flat_map decl_names y.decls) (type_names y.ty.0) (types_within y.ty.0) (literals_of y.ty.0) y.ty.1

  returned_layer : (y : ReturnedNode related) → ReturnedFits related y
  returned_layer y = after (decl_names y.decl) (type_names y.ty.0) (types_within y.ty.0) (literals_of y.ty.0) y.ty.1

  signature_layer : (y : SignatureNode related) → SignatureFits related y
  signature_layer y = by y.returned
    where
      by : (returned : Option (KnownReturned related)) → SignatureFits related (record y { returned = returned })
      by None = parts.both (names_in y.formals) [] (types_in y.formals) [] (literals_in y.formals) [] (row y.formals) (parts.others [])
      by (Some returned) =
          parts.both (names_in y.formals) (returned_names returned.0) (types_in y.formals) (returned_types returned.0) (literals_in y.formals) (returned_literals returned.0) (row y.formals) returned.1

  pub type_parts : (tree : TypeTree) → P (type_names tree) (types_within tree) (literals_of tree)
  type_parts = type_related related (record { types = type_layer; formals = formal_layer; returns = returned_layer; signatures = signature_layer })
