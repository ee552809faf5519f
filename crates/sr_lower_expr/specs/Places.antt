-- Whose variables and operations names mean, and the places that are made of them.
use Rattle.std.specs.Prelude.{ℕ, ◌==◌, false, List, [], ◌∷◌, ◌++◌, Option, Some, None, map, position, if◌then◌else◌}
use Rattle.sr_core.specs.declared.component.Operation.{Operation}
use Rattle.sr_core.specs.declared.component.Parameter.{Parameter}
use Rattle.sr_core.specs.declared.expression.Expr.{Expr}
use Rattle.sr_core.specs.declared.expression.Expr.TheVariants.{Leaf, Load, Of}
use Rattle.sr_core.specs.declared.expression.Leaf.TheVariants.{Constant, Operation as operation_leaf}
use Rattle.sr_core.specs.declared.expression.PlaceExpr.{PlaceExpr, out-PlaceExpr, roll-PlaceExpr}
use Rattle.sr_core.specs.declared.expression.Step.{Step}
use Rattle.sr_core.specs.declared.formal.Formal.{Formal}
use Rattle.sr_core.specs.declared.formal.Returned.{Returned}
use Rattle.sr_core.specs.declared.owner.Home.{Home}
use Rattle.sr_core.specs.declared.owner.Home.TheVariants as home
use Rattle.sr_core.specs.declared.owner.Root.{Root}
use Rattle.sr_core.specs.declared.owner.Root.TheVariants as root
use Rattle.sr_core.specs.declared.owner.OperationOwner.{OperationOwner}
use Rattle.sr_core.specs.declared.owner.OperationOwner.TheVariants as whose
use Rattle.sr_core.specs.declared.statement.Scope.{Scope}
use Rattle.sr_core.specs.declared.statement.Scope.TheVariants.{Own, Shared}
use Rattle.sr_names.specs.declared.spot.Spot.{Spot}
use Rattle.sr_names.specs.Spots.{same_spot}
use Rattle.sr_value.specs.declared.shape.Shape.{Shape}
use Rattle.sr_value.specs.declared.value.Value.TheVariants.{Bool as truth_value}
use Rattle.sr_lower_expr.specs.declared.scene.Lowered.{Lowered}
use Rattle.sr_lower_expr.specs.declared.scene.Lowered.TheVariants as lowered
use Rattle.sr_lower_expr.specs.declared.scene.Scene.{Scene}
use Rattle.sr_tables.specs.declared.tables.SharedVariable.{SharedVariable}
use Rattle.sr_tables.specs.Tables.{found_at, keys_of, number_in}

-- ---- numbers

abbrev pub own_number : Scene → Spot → ℕ
own_number scene spot = number_in scene.own spot

abbrev pub operation_number : Scene → Spot → ℕ
operation_number scene spot = number_in (keys_of scene.tables.operations) spot

abbrev pub site_number : Scene → Spot → ℕ
site_number scene spot = number_in scene.tables.sites spot

-- the place of a global in the list of those that the component imports
abbrev pub import_place : Scene → ℕ → Option ℕ
import_place scene global = position (λ import. import == global) scene.imports

-- ---- what stands where a program is refused

-- a value, which is no invocation
abbrev pub nothing : Expr
nothing = Leaf (Constant (truth_value false))

-- a variable of the component
abbrev pub nowhere : Root
nowhere = root.Shared home.Mine 0

-- ---- variables

-- what isn't imported, as in a program that is refused, counts as the component's own
abbrev pub imported_home : Option ℕ → Home
imported_home None = home.Mine
imported_home (Some import) = home.Imported import

abbrev pub home_of : Scene → ℕ → Home
home_of scene component = if component == scene.component then home.Mine else imported_home (import_place scene component)

-- an own variable of the process
abbrev pub own_root : Scene → Spot → Root
own_root scene spot = by (position (same_spot spot) scene.own)
  where
    by : Option ℕ → Root
    by None = nowhere
    by (Some var) = root.Own var

-- a variable of a component is shared, and every other is the process's own
abbrev pub root_of : Scene → Spot → Root
root_of scene spot = by (found_at scene.tables.shared spot)
  where
    by : Option SharedVariable → Root
    by (Some variable) = root.Shared (home_of scene variable.component) variable.var
    by None = own_root scene spot

abbrev pub place_at : Root → PlaceExpr
place_at root = roll-PlaceExpr (record { root = root; path = [] })

abbrev pub own_place : Scene → Spot → PlaceExpr
own_place scene spot = place_at (own_root scene spot)

-- ---- operations

-- the same of operations
abbrev pub imported_whose : Option ℕ → OperationOwner
imported_whose None = whose.Mine
imported_whose (Some import) = whose.Imported import

abbrev pub whose_by : Scene → Scope → ℕ → OperationOwner
whose_by scene Own component = whose.Process
whose_by scene Shared component = if component == scene.component then whose.Mine else imported_whose (import_place scene component)

abbrev pub operation_at : Scene → Spot → Option Operation
operation_at scene spot = found_at scene.tables.operations spot

-- the instance's or the process's; an operation that isn't there, as in no accepted program, counts as the instance's
abbrev pub scope_in : Option Operation → Scope
scope_in None = Shared
scope_in (Some operation) = operation.scope

abbrev pub scope_of_operation : Scene → Spot → Scope
scope_of_operation scene spot = scope_in (operation_at scene spot)

-- an expression that names the operation which is declared at a spot
abbrev pub naming : Scene → Spot → (Operation → ℕ → Expr) → Expr
naming scene spot made = by (operation_at scene spot)
  where
    by : Option Operation → Expr
    by None = nothing
    by (Some operation) = made operation (operation_number scene spot)

-- the capability of an operation
abbrev pub operation_expr : Scene → Spot → Expr
operation_expr scene spot = naming scene spot (λ operation number. Leaf (operation_leaf (whose_by scene operation.scope operation.component) number))

-- ---- expressions that are places

-- the value at a place is loaded
abbrev pub value_of : Lowered → Expr
value_of (lowered.Place place) = Load place
value_of (lowered.Value value) = value

abbrev pub place_of : Lowered → PlaceExpr
place_of (lowered.Place place) = place
place_of (lowered.Value value) = place_at nowhere

abbrev pub further : PlaceExpr → Step → PlaceExpr
further place step = roll-PlaceExpr (record { root = (out-PlaceExpr place).root; path = (out-PlaceExpr place).path ++ step ∷ [] })

-- a part of a value at a place is at a place too
abbrev pub part_of : Lowered → Step → Lowered
part_of (lowered.Place place) step = lowered.Place (further place step)
part_of (lowered.Value value) step = lowered.Value (Of value step)

-- ---- formals of services

abbrev pub formal_of : ℕ → Parameter → Formal
formal_of var parameter = record { var = var; mode = parameter.mode; shape = parameter.shape }

-- the first of the variables; where there is none, as in a program that is refused, 0
abbrev pub first_var : List ℕ → ℕ
first_var [] = 0
first_var (var ∷ vars) = var

abbrev pub vars_after : List ℕ → List ℕ
vars_after [] = []
vars_after (var ∷ vars) = vars

-- variables stand for formals in order
abbrev pub formals_of : List ℕ → List Parameter → List Formal
formals_of vars [] = []
formals_of vars (parameter ∷ parameters) = formal_of (first_var vars) parameter ∷ formals_of (vars_after vars) parameters

abbrev pub parameters_at : Scene → Spot → List Parameter
parameters_at scene operation = by (operation_at scene operation)
  where
    by : Option Operation → List Parameter
    by None = []
    by (Some found) = found.parameters

abbrev pub returns_at : Scene → Spot → Option Shape
returns_at scene operation = by (operation_at scene operation)
  where
    by : Option Operation → Option Shape
    by None = None
    by (Some found) = found.returns

abbrev pub own_numbers : Scene → List Spot → List ℕ
own_numbers scene spots = map (own_number scene) spots

-- names stand for the formals of an operation in order
abbrev pub own_formals : Scene → List Spot → Spot → List Formal
own_formals scene spots operation = formals_of (own_numbers scene spots) (parameters_at scene operation)

-- a variable stands for what the operation returns
abbrev pub returned_to : ℕ → Option Shape → Option Returned
returned_to var None = None
returned_to var (Some shape) = Some (record { var = var; shape = shape })

-- a name stands for what the operation returns
abbrev pub own_returned : Scene → List Spot → Spot → Option Returned
own_returned scene spots operation = returned_to (first_var (own_numbers scene spots)) (returns_at scene operation)
