-- The lines that tell the classes of a program's operations.
use Rattle.std.specs.Prelude.{ℕ, zero, suc, ◌==◌, Bool, if◌then◌else◌, List, [], ◌∷◌, ◌++◌, length, Option, Some, None, slice_get}
use Rattle.sr_classes.specs.Classes.{class_of}
use Rattle.sr_core.specs.declared.component.Component.{Component}
use Rattle.sr_core.specs.declared.component.Core.{Core}
use Rattle.sr_core.specs.declared.component.Operation.{Operation}

-- of the numbers below `count` that pass the test, the texts, in order
abbrev pub texts_below : (ℕ → Bool) → (ℕ → List ℕ) → ℕ → List ℕ
texts_below test text zero = []
texts_below test text (suc count) = texts_below test text count ++ (if test count then text count else [])

-- ---- names

abbrev pub own_name : Option Component → List ℕ
own_name None = []
own_name (Some component) = component.name

-- the name of the component that declares an operation
abbrev pub component_name : List Component → Option Operation → List ℕ
component_name components None = []
component_name components (Some operation) = own_name (slice_get components operation.component)

abbrev pub operation_name : Option Operation → List ℕ
operation_name None = []
operation_name (Some operation) = operation.name

-- ---- lines

-- an operation of a class: a space and its name
abbrev pub member_text : List Operation → ℕ → List ℕ
member_text operations op = 32 ∷ operation_name (slice_get operations op)

-- all operations of a class
abbrev pub members_text : List Operation → List ℕ → ℕ → List ℕ
members_text operations classes class = texts_below (λ op. class_of classes op == class) (member_text operations) (length operations)

-- the line of a class, by its first operation: the name of the component, `:` and the operations
abbrev pub class_line : Core → List ℕ → ℕ → List ℕ
class_line core classes first =
    component_name core.components (slice_get core.operations first) ++ 58 ∷ members_text core.operations classes first ++ 10 ∷ []

-- a line for each class, in the order of first operations
abbrev pub class_text : Core → List ℕ → List ℕ
class_text core classes = texts_below (λ op. class_of classes op == op) (class_line core classes) (length core.operations)
