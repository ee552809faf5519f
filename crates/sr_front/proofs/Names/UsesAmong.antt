-- The names that a written type uses as types are among the names in it, and those of the records in it are among its own.
use Rattle.std.proofs.Common.{List, [], ◌∷◌, Option, Some, None, map, flat_map}
use Rattle.sr_value.specs.declared.place.Span.{Span}
use Rattle.sr_tree.specs.declared.name.Name.{Name}
use Rattle.sr_tree.specs.declared.name.QualifiedName.{QualifiedName}
use Rattle.sr_tree.specs.declared.types.Formal.{Formal}
use Rattle.sr_tree.specs.declared.types.Signature.{Signature}
use Rattle.sr_tree.specs.declared.types.TypeTree.{TypeTree}
use Rattle.sr_tree.specs.declared.types.TypeTree.TheOpen.{TypeTree-F}
use Rattle.sr_order.specs.Names.{decl_names, dims_names, formal_names, qualified_names, returned_names, signature_names, type_names}
use Rattle.sr_order.specs.Spans.{joined}
use Rattle.sr_check_expr.specs.Naming.{deciding}
use Rattle.sr_check.proofs.Each.{Each, each-append, each-left, each-right}
use Rattle.sr_front.proofs.Typed.TypedTypes.{all_uses, formal_uses, returned_uses, signature_uses, type_uses, uses_fold}
use Rattle.sr_tree.proofs.TypeFolds.{formal_related, signature_related, type_related, FormalFits, FormalNode, KnownFormal, KnownReturned, Layers, Related, ReturnedFits, ReturnedNode, SignatureFits, SignatureNode, TypeFits, TypeNode}
use Rattle.sr_order.proofs.NameFolds.{type_naming}

module _ (P : Span → Type 0) where
  abbrev pub UseFits : QualifiedName → Type 0
  UseFits name = P (deciding name).span

  -- what holds of all these names holds of the uses
  abbrev Uses : List Span → List QualifiedName → Type 0
  Uses spans uses = Each P spans → Each UseFits uses

  abbrev related : Related
  related = record {
    first = type_naming;
    second = uses_fold;
    third = uses_fold;
    Types = λ spans uses same. Uses spans uses;
    Formals = λ spans uses same. Uses spans uses;
    Returns = λ spans uses same. Uses spans uses;
    Signatures = λ spans uses same. Uses spans uses;
  }

  abbrev names_in : List (KnownFormal related) → List Span
  names_in formals = joined (map formal_names (map (λ (formal : KnownFormal related). formal.0) formals))

  abbrev uses_in : List (KnownFormal related) → List QualifiedName
  uses_in formals = all_uses (map formal_uses (map (λ (formal : KnownFormal related). formal.0) formals))

  -- ---- each kind of tree from its parts

  pub named_uses : (name : QualifiedName) → Each P (qualified_names name) → Each UseFits (name ∷ [])
  named_uses name each = (by name.second each, tt)
    where
      by : (second : Option Name) → Each P (qualified_names (record name { second = second })) → P (deciding (record name { second = second })).span
      by None each = each.0
      by (Some member) each = each.1.0

  row_uses : (formals : List (KnownFormal related)) → Uses (names_in formals) (uses_in formals)
  row_uses [] each = tt
  row_uses (formal ∷ formals) each =
      each-append UseFits (formal_uses formal.0) (uses_in formals) (formal.1 (each-left P (formal_names formal.0) (names_in formals) each)) (row_uses formals (each-right P (formal_names formal.0) (names_in formals) each))

  type_node : (y : TypeNode related) → TypeFits related y
  type_node (TypeTree-F.Rec span fields) each = row_uses fields each.1
  type_node (TypeTree-F.CapOf span name) each = named_uses name each
  type_node (TypeTree-F.CapOperation span signature) each = signature.1 each
  type_node (TypeTree-F.Array span dims item) each = item.1 (each-right P (dims_names dims) (type_names item.0) each)
  type_node (TypeTree-F.Named span name) each = named_uses name each
  type_node _ each = tt

  formal_node : (y : FormalNode related) → FormalFits related y
  formal_node y each = y.ty.1 (each-right P (flat_map decl_names y.decls) (type_names y.ty.0) each)

  returned_node : (y : ReturnedNode related) → ReturnedFits related y
  returned_node y each = y.ty.1 (each-right P (decl_names y.decl) (type_names y.ty.0) each)

  signature_by : (y : SignatureNode related) (returned : Option (KnownReturned related)) → SignatureFits related (record y { returned = returned })
  signature_by y None each = each-append UseFits (uses_in y.formals) [] (row_uses y.formals (each-left P (names_in y.formals) [] each)) tt
  signature_by y (Some returned) each =
      each-append UseFits (uses_in y.formals) (returned_uses returned.0) (row_uses y.formals (each-left P (names_in y.formals) (returned_names returned.0) each))
      (returned.1 (each-right P (names_in y.formals) (returned_names returned.0) each))

  -- ---- all trees

  layers : Layers related
  layers = record { types = type_node; formals = formal_node; returns = returned_node; signatures = λ y. signature_by y y.returned }

  pub uses_of_type : (tree : TypeTree) → Uses (type_names tree) (type_uses tree)
  uses_of_type = type_related related layers

  pub uses_of_formal : (tree : Formal) → Uses (formal_names tree) (formal_uses tree)
  uses_of_formal = formal_related related layers

  pub uses_of_signature : (tree : Signature) → Uses (signature_names tree) (signature_uses tree)
  uses_of_signature = signature_related related layers

  pub uses_of_formals : (formals : List Formal) → Uses (flat_map formal_names formals) (all_uses (map formal_uses formals))
  uses_of_formals [] each = tt
  uses_of_formals (formal ∷ formals) each =
      each-append UseFits (formal_uses formal) (all_uses (map formal_uses formals)) (uses_of_formal formal (each-left P (formal_names formal) (flat_map formal_names formals) each))
      (uses_of_formals formals (each-right P (formal_names formal) (flat_map formal_names formals) each))
