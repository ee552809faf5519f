-- The tree that is kept beside the enumerations and records in it is the tree that they are in. Those in a record or signature are those in its parts.
use Rattle.std.proofs.Common.{◌≡◌, ◌∙◌, List, [], ◌∷◌, ◌++◌, Option, Some, None, map, flat_map, refl, ap, sym, subst}
use Rattle.sr_value.specs.declared.place.Span.{Span}
use Rattle.sr_tree.specs.declared.types.Formal.{Formal, roll-Formal}
use Rattle.sr_tree.specs.declared.types.Returned.{Returned, roll-Returned}
use Rattle.sr_tree.specs.declared.types.Signature.{Signature, out-Signature, roll-Signature}
use Rattle.sr_tree.specs.declared.types.TypeTree.{TypeTree, roll-TypeTree}
use Rattle.sr_tree.specs.declared.types.TypeTree.TheFolds.{fold_out-Signature, ind-Formal, map-TypeTree, map-Formal, map-Returned, map-Signature}
use Rattle.sr_tree.specs.declared.types.TypeTree.TheOpen.{TypeTree-F, Formal-F, Returned-F, Signature-F}
use Rattle.sr_tree.specs.declared.types.TypeTree.TheVariants as ty
use Rattle.sr_tree.specs.Nested.{Holds, all_trees, all_types, formal_step, formal_types, maybe_types, returned_step, signature_step, signature_types, type_step, types_within, written_types}
use Rattle.sr_tree.proofs.TypeFolds.{TypeFold, formal_layer, formal_rolls, of_formal, of_returned, of_signature, of_type, returned_layer, returned_rolls, signature_layer, signature_rolls, type_layer, type_rolls}

abbrev pub held_fold : TypeFold
held_fold = record {
  OfType = Holds TypeTree;
  OfFormal = Holds Formal;
  OfReturned = Holds Returned;
  OfSignature = Holds Signature;
  type_step = type_step;
  formal_step = formal_step;
  returned_step = returned_step;
  signature_step = signature_step;
}

abbrev type_held : TypeTree → Holds TypeTree
type_held = of_type held_fold

abbrev pub formal_held : Formal → Holds Formal
formal_held = of_formal held_fold

abbrev returned_held : Returned → Holds Returned
returned_held = of_returned held_fold

abbrev signature_held : Signature → Holds Signature
signature_held = of_signature held_fold

-- trees with what is known of them
abbrev T : Type 0
T = (tree : TypeTree) × ((type_held tree).tree ≡ tree)

abbrev F : Type 0
F = (tree : Formal) × ((formal_held tree).tree ≡ tree)

abbrev R : Type 0
R = (tree : Returned) × ((returned_held tree).tree ≡ tree)

abbrev S : Type 0
S = (tree : Signature) × ((signature_held tree).tree ≡ tree)

same_row : (trees : List F) → all_trees (map formal_held (map (λ f. f.0) trees)) ≡ map (λ f. f.0) trees
same_row [] = refl
same_row (tree ∷ trees) = λ i. tree.1 i ∷ same_row trees i

abbrev bare_type : TypeTree-F T F R S → TypeTree-F TypeTree Formal Returned Signature
bare_type = map-TypeTree T F R S TypeTree Formal Returned Signature (λ e. e.0) (λ e. e.0) (λ e. e.0) (λ e. e.0)

abbrev bare_formal : Formal-F T F R S → Formal-F TypeTree Formal Returned Signature
bare_formal = map-Formal T F R S TypeTree Formal Returned Signature (λ e. e.0) (λ e. e.0) (λ e. e.0) (λ e. e.0)

abbrev bare_returned : Returned-F T F R S → Returned-F TypeTree Formal Returned Signature
bare_returned = map-Returned T F R S TypeTree Formal Returned Signature (λ e. e.0) (λ e. e.0) (λ e. e.0) (λ e. e.0)

abbrev bare_signature : Signature-F T F R S → Signature-F TypeTree Formal Returned Signature
bare_signature = map-Signature T F R S TypeTree Formal Returned Signature (λ e. e.0) (λ e. e.0) (λ e. e.0) (λ e. e.0)

-- ---- each kind of tree from its parts

type_same : (y : TypeTree-F T F R S) → (type_layer held_fold (bare_type y)).tree ≡ roll-TypeTree (bare_type y)
type_same (TypeTree-F.Int span) = sym (ty.rolls-Int span)
type_same (TypeTree-F.Bool span) = sym (ty.rolls-Bool span)
type_same (TypeTree-F.Char span) = sym (ty.rolls-Char span)
type_same (TypeTree-F.Str span length) = sym (ty.rolls-Str span length)
type_same (TypeTree-F.Enum span literals) = sym (ty.rolls-Enum span literals)
type_same (TypeTree-F.Rec span fields) = ap (ty.Rec span) (same_row fields) ∙ sym (ty.rolls-Rec span (map (λ f. f.0) fields))
type_same (TypeTree-F.CapOf span name) = sym (ty.rolls-CapOf span name)
type_same (TypeTree-F.CapMachine span) = sym (ty.rolls-CapMachine span)
type_same (TypeTree-F.CapOperation span signature) = ap (ty.CapOperation span) signature.1 ∙ sym (ty.rolls-CapOperation span signature.0)
type_same (TypeTree-F.Array span dims item) = ap (ty.Array span dims) item.1 ∙ sym (ty.rolls-Array span dims item.0)
type_same (TypeTree-F.Named span name) = sym (ty.rolls-Named span name)

formal_same : (y : Formal-F T F R S) → (formal_layer held_fold (bare_formal y)).tree ≡ roll-Formal (bare_formal y)
formal_same y = ap (λ tree. roll-Formal (record { span = y.span; mode = y.mode; decls = y.decls; ty = tree })) y.ty.1

returned_same : (y : Returned-F T F R S) → (returned_layer held_fold (bare_returned y)).tree ≡ roll-Returned (bare_returned y)
returned_same y = ap (λ tree. roll-Returned (record { span = y.span; decl = y.decl; ty = tree })) y.ty.1

signature_same : (y : Signature-F T F R S) → (signature_layer held_fold (bare_signature y)).tree ≡ roll-Signature (bare_signature y)
signature_same y = by y.returned
  where
    by : (returned : Option R)
        → (signature_layer held_fold (bare_signature (record y { returned = returned }))).tree
        ≡ roll-Signature (bare_signature (record y { returned = returned }))
    by None = λ i. roll-Signature (record { span = y.span; formals = same_row y.formals i; returned = None; kinds = y.kinds })
    by (Some returned) = λ i. roll-Signature (record { span = y.span; formals = same_row y.formals i; returned = Some (returned.1 i); kinds = y.kinds })

-- ---- all trees

step_type : (x : TypeTree-F TypeTree Formal Returned Signature) (y : TypeTree-F T F R S) → bare_type y ≡ x → (type_held (roll-TypeTree x)).tree ≡ roll-TypeTree x
step_type x y is = subst (λ z. (type_held (roll-TypeTree z)).tree ≡ roll-TypeTree z) is
    (ap (λ held. held.tree) (sym (type_rolls held_fold (bare_type y))) ∙ type_same y)

step_formal : (x : Formal-F TypeTree Formal Returned Signature) (y : Formal-F T F R S) → bare_formal y ≡ x → (formal_held (roll-Formal x)).tree ≡ roll-Formal x
step_formal x y is = subst (λ z. (formal_held (roll-Formal z)).tree ≡ roll-Formal z) is
    (ap (λ held. held.tree) (sym (formal_rolls held_fold (bare_formal y))) ∙ formal_same y)

step_returned : (x : Returned-F TypeTree Formal Returned Signature) (y : Returned-F T F R S) → bare_returned y ≡ x → (returned_held (roll-Returned x)).tree ≡ roll-Returned x
step_returned x y is = subst (λ z. (returned_held (roll-Returned z)).tree ≡ roll-Returned z) is
    (ap (λ held. held.tree) (sym (returned_rolls held_fold (bare_returned y))) ∙ returned_same y)

step_signature : (x : Signature-F TypeTree Formal Returned Signature) (y : Signature-F T F R S) → bare_signature y ≡ x → (signature_held (roll-Signature x)).tree ≡ roll-Signature x
step_signature x y is = subst (λ z. (signature_held (roll-Signature z)).tree ≡ roll-Signature z) is
    (ap (λ held. held.tree) (sym (signature_rolls held_fold (bare_signature y))) ∙ signature_same y)

same_formal : (tree : Formal) → (formal_held tree).tree ≡ tree
same_formal = ind-Formal (λ tree. (type_held tree).tree ≡ tree) (λ tree. (formal_held tree).tree ≡ tree) (λ tree. (returned_held tree).tree ≡ tree) (λ tree. (signature_held tree).tree ≡ tree)
    step_type step_formal step_returned step_signature

-- the fields that are kept of a record are its fields
pub same_fields : (fields : List Formal) → all_trees (map formal_held fields) ≡ fields
same_fields [] = refl
same_fields (field ∷ fields) = λ i. same_formal field i ∷ same_fields fields i

-- ---- the types in records and signatures

pub fields_types : (fields : List Formal) → all_types (map formal_held fields) ≡ flat_map formal_types fields
fields_types [] = refl
fields_types (field ∷ fields) = ap (λ types. formal_types field ++ types) (fields_types fields)

pub record_types : (span : Span) (fields : List Formal) → types_within (ty.Rec span fields) ≡ ty.Rec span fields ∷ flat_map formal_types fields
record_types span fields =
    ap types_within (sym (ty.rolls-Rec span fields))
    ∙ ap (λ (held : Holds TypeTree). held.types) (sym (type_rolls held_fold (TypeTree-F.Rec span fields)))
    ∙ (λ i. ty.Rec span (same_fields fields i) ∷ fields_types fields i)

returned_types : (x : Signature-F TypeTree Formal Returned Signature) (returned : Option Returned)
    → maybe_types
    (map-Signature TypeTree Formal Returned Signature (Holds TypeTree) (Holds Formal) (Holds Returned) (Holds Signature) type_held formal_held returned_held signature_held
    (record x { returned = returned })).returned
    ≡ written_types returned
returned_types x None = refl
returned_types x (Some returned) = refl

pub signature_parts : (tree : Signature) → signature_types tree ≡ flat_map formal_types (out-Signature tree).formals ++ written_types (out-Signature tree).returned
signature_parts tree =
    let x = out-Signature tree in
    ap (λ (held : Holds Signature). held.types) (fold_out-Signature (Holds TypeTree) (Holds Formal) (Holds Returned) (Holds Signature) type_step formal_step returned_step signature_step tree)
    ∙ (λ i. fields_types x.formals i ++ returned_types x x.returned i)
