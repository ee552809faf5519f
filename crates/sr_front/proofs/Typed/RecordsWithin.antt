-- Where no rule is broken in a written type, none is broken in the fields of the records that are written in it.
use Rattle.std.proofs.Common.{Bool, true, false, List, [], ◌∷◌, map, Option, Some, None, sym, subst}
use Rattle.sr_tree.specs.declared.types.Formal.{Formal}
use Rattle.sr_tree.specs.declared.types.Returned.{Returned}
use Rattle.sr_tree.specs.declared.types.Signature.{Signature as SignatureTree}
use Rattle.sr_tree.specs.declared.types.TypeTree.{TypeTree, out-TypeTree}
use Rattle.sr_tree.specs.declared.types.TypeTree.TheOpen.{TypeTree-F}
use Rattle.sr_tree.specs.declared.types.TypeTree.TheVariants as tree
use Rattle.sr_tree.specs.Nested.{Holds, all_types, formal_types, returned_types, types_within}
use Rattle.sr_tree.proofs.Nested.{formal_held, held_fold, same_fields}
use Rattle.sr_check_expr.specs.declared.facts.Facts.{Facts}
use Rattle.sr_check_decl.specs.declared.kind.BoundPolicy.{BoundPolicy}
use Rattle.sr_check_decl.specs.TypeTrees.{Kinds, ReadsFormals, ReadsReturned, ReadsSignature, fixed_bounds, formal_bounds, formal_read, formals_at, formals_found, mode_of, type_kinding}
use Rattle.sr_check.specs.ErrorFree.{ErrorFree}
use Rattle.sr_check.proofs.Each.{Each, each-append}
use Rattle.sr_check.proofs.ErrorFree.{error_free_first, error_free_second}
use Rattle.sr_tree.proofs.TypeFolds.{out-enum, out-record, type_related, FormalFits, FormalNode, KnownFormal, KnownReturned, Related, ReturnedFits, ReturnedNode, SignatureFits, SignatureNode, TypeFits, TypeNode}
use Rattle.sr_front.proofs.Typed.TypedTypes.{kinds_fold}

module _ (end : Facts) where
  -- no rule is broken in the fields of a record
  abbrev pub LayerFree : TypeTree-F TypeTree Formal Returned SignatureTree → Type 0
  LayerFree (TypeTree-F.Rec span fields) = ErrorFree (formals_found (formals_at (map formal_read fields) end true))
  LayerFree _ = Unit {0}

  abbrev pub TreeFree : TypeTree → Type 0
  TreeFree one = LayerFree (out-TypeTree one)

  -- ---- each tree, when its parts are so

  abbrev related : Related
  related = record {
    first = held_fold;
    second = kinds_fold;
    third = kinds_fold;
    Types = λ (held : Holds TypeTree) (reads : Kinds) same. (policy : BoundPolicy) → ErrorFree (reads end policy).found → Each TreeFree held.types;
    Formals = λ (held : Holds Formal) (reads : ReadsFormals) same. (is_field : Bool) → ErrorFree (reads end is_field).found → Each TreeFree held.types;
    Returns = λ (held : Holds Returned) (reads : ReadsReturned) same. ErrorFree (reads end).found → Each TreeFree held.types;
    Signatures = λ (held : Holds SignatureTree) (reads : ReadsSignature) same. ErrorFree (reads end).found → Each TreeFree held.types;
  }

  abbrev trees_of : List (KnownFormal related) → List Formal
  trees_of formals = map (λ (formal : KnownFormal related). formal.0) formals

  abbrev types_in : List (KnownFormal related) → List TypeTree
  types_in formals = all_types (map formal_held (trees_of formals))

  row_node : (formals : List (KnownFormal related)) (is_field : Bool) → ErrorFree (formals_found (formals_at (map formal_read (trees_of formals)) end is_field)) → Each TreeFree (types_in formals)
  row_node [] is_field whole = tt
  row_node (formal ∷ formals) is_field whole =
      let found = (formal_read formal.0 end is_field).found in
      each-append TreeFree (formal_types formal.0) (types_in formals) (formal.1 is_field (error_free_first found _ whole)) (row_node formals is_field (error_free_second found _ whole))

  formal_node : (y : FormalNode related) → FormalFits related y
  formal_node y is_field whole =
      let bounds = formal_bounds is_field (mode_of y.mode) in
      y.ty.1 bounds (error_free_first (type_kinding y.ty.0 end bounds).found _ whole)

  returned_node : (y : ReturnedNode related) → ReturnedFits related y
  returned_node y whole = y.ty.1 fixed_bounds (error_free_first (type_kinding y.ty.0 end fixed_bounds).found _ whole)

  signature_by : (y : SignatureNode related) (returned : Option (KnownReturned related)) → SignatureFits related (record y { returned = returned })
  signature_by y None whole =
      each-append TreeFree (types_in y.formals) [] (row_node y.formals false (error_free_first (formals_found (formals_at (map formal_read (trees_of y.formals)) end false)) [] whole)) tt
  signature_by y (Some returned) whole =
      let found = formals_found (formals_at (map formal_read (trees_of y.formals)) end false) in
      each-append TreeFree (types_in y.formals) (returned_types returned.0) (row_node y.formals false (error_free_first found _ whole)) (returned.1 (error_free_second found _ whole))

  type_node : (y : TypeNode related) → TypeFits related y
  type_node (TypeTree-F.Enum span literals) policy whole = (subst LayerFree (sym (out-enum span literals)) tt, tt)
  type_node (TypeTree-F.Rec span fields) policy whole =
      let trees = trees_of fields in (
        subst (λ (all : List Formal). TreeFree (tree.Rec span all)) (sym (same_fields trees)) (subst LayerFree (sym (out-record span trees)) whole),
        row_node fields true whole,
      )
  type_node (TypeTree-F.CapOperation span signature) policy whole = signature.1 whole
  type_node (TypeTree-F.Array span dims item) policy whole = item.1 policy (error_free_first (type_kinding item.0 end policy).found _ whole)
  type_node _ policy whole = tt

  pub within_free : (one : TypeTree) (policy : BoundPolicy) → ErrorFree (type_kinding one end policy).found → Each TreeFree (types_within one)
  within_free = type_related related (record { types = type_node; formals = formal_node; returns = returned_node; signatures = λ y. signature_by y y.returned })
