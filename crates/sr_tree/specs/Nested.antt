-- The enumerations and records that are written in a type. Each is given as its own tree, and is known by the place of
-- its first token, the word `enum` or `rec`.
use Rattle.std.specs.Prelude.{List, [], ◌∷◌, ◌++◌, Option, Some, None, map, flat_map}
use Rattle.std.specs.Option.{option_map}
use Rattle.sr_value.specs.declared.place.Span.{Span}
use Rattle.sr_tree.specs.declared.types.Formal.{Formal, roll-Formal, fold-Formal}
use Rattle.sr_tree.specs.declared.types.Returned.{Returned, roll-Returned, fold-Returned}
use Rattle.sr_tree.specs.declared.types.Signature.{Signature, roll-Signature, fold-Signature}
use Rattle.sr_tree.specs.declared.types.TypeTree.{TypeTree, out-TypeTree, fold-TypeTree}
use Rattle.sr_tree.specs.declared.types.TypeTree.TheOpen.{TypeTree-F, Formal-F, Returned-F, Signature-F}
use Rattle.sr_tree.specs.declared.types.TypeTree.TheVariants as ty

-- a tree, and the enumerations and records in it
pub record Holds (A : Type 0) : Type 0 where
  pub tree : A
  pub types : List TypeTree

abbrev pub holds : {A : Type 0} → A → List TypeTree → Holds A
holds tree types = record { tree = tree; types = types }

abbrev pub all_types : {A : Type 0} → List (Holds A) → List TypeTree
all_types parts = flat_map (λ part. part.types) parts

abbrev pub all_trees : {A : Type 0} → List (Holds A) → List A
all_trees parts = map (λ part. part.tree) parts

abbrev pub maybe_types : {A : Type 0} → Option (Holds A) → List TypeTree
maybe_types None = []
maybe_types (Some part) = part.types

abbrev pub Step : Type 0
Step = TypeTree-F (Holds TypeTree) (Holds Formal) (Holds Returned) (Holds Signature) → Holds TypeTree

abbrev pub type_step : Step
type_step (TypeTree-F.Int span) = holds (ty.Int span) []
type_step (TypeTree-F.Bool span) = holds (ty.Bool span) []
type_step (TypeTree-F.Char span) = holds (ty.Char span) []
type_step (TypeTree-F.Str span length) = holds (ty.Str span length) []
type_step (TypeTree-F.Enum span literals) = holds (ty.Enum span literals) (ty.Enum span literals ∷ [])
type_step (TypeTree-F.Rec span fields) = holds (ty.Rec span (all_trees fields)) (ty.Rec span (all_trees fields) ∷ all_types fields)
type_step (TypeTree-F.CapOf span name) = holds (ty.CapOf span name) []
type_step (TypeTree-F.CapMachine span) = holds (ty.CapMachine span) []
type_step (TypeTree-F.CapOperation span signature) = holds (ty.CapOperation span signature.tree) signature.types
type_step (TypeTree-F.Array span dims item) = holds (ty.Array span dims item.tree) item.types
type_step (TypeTree-F.Named span name) = holds (ty.Named span name) []

abbrev pub formal_step : Formal-F (Holds TypeTree) (Holds Formal) (Holds Returned) (Holds Signature) → Holds Formal
formal_step formal = holds (roll-Formal (record { span = formal.span; mode = formal.mode; decls = formal.decls; ty = formal.ty.tree })) formal.ty.types

abbrev pub returned_step : Returned-F (Holds TypeTree) (Holds Formal) (Holds Returned) (Holds Signature) → Holds Returned
returned_step returned = holds (roll-Returned (record { span = returned.span; decl = returned.decl; ty = returned.ty.tree })) returned.ty.types

abbrev pub signature_step : Signature-F (Holds TypeTree) (Holds Formal) (Holds Returned) (Holds Signature) → Holds Signature
signature_step signature =
    holds (roll-Signature (record { span = signature.span; formals = all_trees signature.formals; returned = option_map (λ part. part.tree) signature.returned; kinds = signature.kinds }))
    (all_types signature.formals ++ maybe_types signature.returned)

-- the enumerations and records that are written in a type, in the order of the text: a record stands before those in it
abbrev pub types_within : TypeTree → List TypeTree
types_within tree = (fold-TypeTree (Holds TypeTree) (Holds Formal) (Holds Returned) (Holds Signature) type_step formal_step returned_step signature_step tree).types

abbrev pub formal_types : Formal → List TypeTree
formal_types tree = (fold-Formal (Holds TypeTree) (Holds Formal) (Holds Returned) (Holds Signature) type_step formal_step returned_step signature_step tree).types

abbrev pub returned_types : Returned → List TypeTree
returned_types tree = (fold-Returned (Holds TypeTree) (Holds Formal) (Holds Returned) (Holds Signature) type_step formal_step returned_step signature_step tree).types

abbrev pub written_types : Option Returned → List TypeTree
written_types None = []
written_types (Some tree) = returned_types tree

abbrev pub signature_types : Signature → List TypeTree
signature_types tree = (fold-Signature (Holds TypeTree) (Holds Formal) (Holds Returned) (Holds Signature) type_step formal_step returned_step signature_step tree).types

abbrev pub layer_place : {A B C D : Type 0} → TypeTree-F A B C D → Option Span
layer_place (TypeTree-F.Enum span literals) = Some span
layer_place (TypeTree-F.Rec span fields) = Some span
layer_place _ = None

abbrev pub maybe_place : Option Span → List Span
maybe_place None = []
maybe_place (Some span) = span ∷ []

-- where the words of enumerations and records stand
abbrev pub word_places : List TypeTree → List Span
word_places trees = flat_map (λ tree. maybe_place (layer_place (out-TypeTree tree))) trees
