-- The literals of enumerations: constants of the scope of their type.
use Rattle.std.specs.Prelude.{List, [], ◌++◌, ◌∷◌, Option, Some, None, map}
use Rattle.sr_tree.specs.declared.name.Name.{Name}
use Rattle.sr_tree.specs.declared.types.Formal.{Formal, fold-Formal}
use Rattle.sr_tree.specs.declared.types.Returned.{Returned, fold-Returned}
use Rattle.sr_tree.specs.declared.types.Signature.{Signature, fold-Signature}
use Rattle.sr_tree.specs.declared.types.TypeTree.{TypeTree, fold-TypeTree}
use Rattle.sr_tree.specs.declared.types.TypeTree.TheOpen.{TypeTree-F, Formal-F, Returned-F, Signature-F}

abbrev pub all_literals : List (List Name) → List Name
all_literals [] = []
all_literals (literals ∷ more) = literals ++ all_literals more

abbrev pub maybe_literals : Option (List Name) → List Name
maybe_literals None = []
maybe_literals (Some literals) = literals

abbrev pub formal_step : Formal-F (List Name) (List Name) (List Name) (List Name) → List Name
formal_step formal = formal.ty

abbrev pub returned_step : Returned-F (List Name) (List Name) (List Name) (List Name) → List Name
returned_step returned = returned.ty

abbrev pub signature_step : Signature-F (List Name) (List Name) (List Name) (List Name) → List Name
signature_step signature = all_literals signature.formals ++ maybe_literals signature.returned

-- an enumeration may stand in a field, in an array, or in the type of an operation
abbrev pub type_step : TypeTree-F (List Name) (List Name) (List Name) (List Name) → List Name
type_step (TypeTree-F.Int span) = []
type_step (TypeTree-F.Bool span) = []
type_step (TypeTree-F.Char span) = []
type_step (TypeTree-F.Str span length) = []
type_step (TypeTree-F.Enum span literals) = literals
type_step (TypeTree-F.Rec span fields) = all_literals fields
type_step (TypeTree-F.CapOf span name) = []
type_step (TypeTree-F.CapMachine span) = []
type_step (TypeTree-F.CapOperation span signature) = signature
type_step (TypeTree-F.Array span dims item) = item
type_step (TypeTree-F.Named span name) = []

-- the literals of all enumerations that are written in a type, in the order of the text
abbrev pub literals_of : TypeTree → List Name
literals_of = fold-TypeTree (List Name) (List Name) (List Name) (List Name) type_step formal_step returned_step signature_step

abbrev pub formal_literals : Formal → List Name
formal_literals = fold-Formal (List Name) (List Name) (List Name) (List Name) type_step formal_step returned_step signature_step

abbrev pub returned_literals : Returned → List Name
returned_literals = fold-Returned (List Name) (List Name) (List Name) (List Name) type_step formal_step returned_step signature_step

abbrev pub signature_literals : Signature → List Name
signature_literals = fold-Signature (List Name) (List Name) (List Name) (List Name) type_step formal_step returned_step signature_step

-- of formals or fields
abbrev pub formals_literals : List Formal → List Name
formals_literals formals = all_literals (map formal_literals formals)
