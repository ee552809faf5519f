-- Each proc of the core serves the operation of its place among the spots that are served.
use Rattle.std.proofs.Common.{◌≡◌, ℕ, suc, ◌+◌, ◌&&◌, List, [], ◌∷◌, Option, Some, None, map, flat_map, slice_get, refl, ◌∙◌, subst, arith}
use Rattle.std.specs.Prelude.{IsTrue}
use Rattle.std.specs.List.{AllZip}
use Rattle.std.proofs.lemmas.Bool.{and_from, eq-eqb}
use Rattle.sr_check_expr.specs.declared.facts.Facts.{Facts}
use Rattle.sr_core.specs.declared.component.Core.{Core}
use Rattle.sr_core.specs.declared.component.Operation.{Operation}
use Rattle.sr_core.specs.declared.component.Parameter.{Parameter}
use Rattle.sr_core.specs.declared.component.Proc.{Proc}
use Rattle.sr_core.specs.declared.formal.Formal.{Formal}
use Rattle.sr_core.specs.declared.formal.Mode.{Mode}
use Rattle.sr_core.specs.declared.formal.Mode.TheVariants.{Val, Var, Res}
use Rattle.sr_core.specs.declared.formal.Returned.{Returned}
use Rattle.sr_core.specs.Serving.{mode_eq, names_formals, proc_ok, procs_ok}
use Rattle.sr_core.specs.Tests.{same_there}
use Rattle.sr_names.specs.declared.spot.Spot.{Spot}
use Rattle.sr_names.specs.Searches.{At}
use Rattle.sr_tables.specs.declared.tables.Tables.{Tables}
use Rattle.sr_tables.specs.Tables.{found_at, keys_of, number_in, things_in}
use Rattle.sr_tree.specs.declared.component.Component.{Component}
use Rattle.sr_tree.specs.declared.component.Item.{Item}
use Rattle.sr_tree.specs.declared.component.Item.TheVariants as item
use Rattle.sr_tree.specs.Parts.{body_of}
use Rattle.sr_value.specs.declared.shape.Shape.{Shape}
use Rattle.sr_tables.specs.Parts.{spot_named}
use Rattle.sr_check_expr.specs.Meanings.{meant_by}
use Rattle.sr_outline.specs.Numbers.{component_served, formal_names, item_served, own_spots, quantifier_names, returned_names, signature_returned}
use Rattle.sr_tree.specs.declared.component.ProcItem.{ProcItem}
use Rattle.sr_tree.specs.declared.types.Signature.{out-Signature}
use Rattle.sr_value.specs.declared.place.Span.{Span}
use Rattle.sr_lower_expr.specs.declared.scene.Scene.{Scene}
use Rattle.sr_desugar.specs.Bodies.{all_procs, in_body, item_output, item_outputs, service}
use Rattle.sr_desugar.specs.Core.{procs_in, scene_of, whole_of, wholes_from}
use Rattle.sr_lower_expr.specs.Places.{first_var, formals_of, operation_number, own_formals, own_numbers, own_returned, returned_to, vars_after}
use Rattle.sr_front.proofs.Lists.Members.{zip_append}

-- ---- formals

same_mode : (mode : Mode) → IsTrue (mode_eq mode mode)
same_mode Val = refl
same_mode Var = refl
same_mode Res = refl

-- variables that stand for formals name them
vars_named : (vars : List ℕ) (parameters : List Parameter) → IsTrue (names_formals (formals_of vars parameters) parameters)
vars_named vars [] = refl
vars_named vars (parameter ∷ parameters) = and_from _ _ (same_mode parameter.mode) (vars_named (vars_after vars) parameters)

var_returned : (var : ℕ) (shape : Option Shape) → IsTrue (same_there (returned_to var shape) shape)
var_returned var None = refl
var_returned var (Some shape) = refl

-- A service of an operation by its number names its formals and what it returns.
pub record Serves (table : List (Spot × Operation)) (op : ℕ) (formals : List Formal) (returned : Option Returned) (spot : Spot) : Type 0 where
  pub is : op ≡ number_in (keys_of table) spot
  pub names : (operation : Operation) → found_at table spot ≡ Some operation → IsTrue (names_formals formals operation.parameters && same_there returned operation.returns)

pub serves : (scene : Scene) (formals returned : List Spot) (spot : Spot)
    → Serves scene.tables.operations (operation_number scene spot) (own_formals scene formals spot) (own_returned scene returned spot) spot
serves scene formals returned spot = record {
  is = refl;
  names = λ operation found. rw found (and_from _ _ (vars_named (own_numbers scene formals) operation.parameters) (var_returned (first_var (own_numbers scene returned)) operation.returns));
}

-- ---- procs

-- a proc serves the operation at a spot
abbrev pub ServesAt : List (Spot × Operation) → Proc → Spot → Type 0
ServesAt table proc spot = Serves table proc.op proc.formals proc.returned spot

abbrev pub AllServe : List (Spot × Operation) → List Proc → List Spot → Type 0
AllServe table = AllZip (ServesAt table)

service_serves : (scene : Scene) (span : Span) (spot : Spot) (formals returned : List Spot) (block : List ProcItem)
    → ServesAt scene.tables.operations (service scene span spot formals returned block).made spot
service_serves scene span spot formals returned block = serves (in_body scene (own_spots scene.facts formals returned block)) formals returned spot

item_serves : (scene : Scene) (one : Item) → AllServe scene.tables.operations (item_output scene one).procs (item_served scene.facts one)
item_serves scene (item.Proc proc) = (service_serves scene proc.span (meant_by scene.facts proc.name) (map spot_named proc.formals) (returned_names proc.returned) proc.block, tt)
item_serves scene (item.Procedure procedure) =
    (service_serves scene procedure.span (spot_named procedure.name) (formal_names (out-Signature procedure.signature).formals) (signature_returned procedure.signature) procedure.block, tt)
item_serves scene (item.Process process) = (service_serves scene process.span (spot_named process.name) (quantifier_names process.quantifiers) [] process.block, tt)
item_serves scene _ = tt

items_serve : (scene : Scene) (items : List Item) → AllServe scene.tables.operations (all_procs (item_outputs scene items)) (flat_map (item_served scene.facts) items)
items_serve scene [] = tt
items_serve scene (one ∷ items) =
    zip_append (ServesAt scene.tables.operations) (item_output scene one).procs (item_served scene.facts one) (all_procs (item_outputs scene items)) (flat_map (item_served scene.facts) items)
    (item_serves scene one) (items_serve scene items)

-- the procs of a component serve what it serves
pub component_serves : (facts : Facts) (tables : Tables) (imports : List (List ℕ)) (number : ℕ) (component : Component)
    → AllServe tables.operations (whole_of facts tables imports (number, component)).procs (component_served facts component)
component_serves facts tables imports number component = items_serve (scene_of facts tables imports number component) (body_of component)

-- the procs of a program serve what its components serve
pub components_serve : (facts : Facts) (tables : Tables) (imports : List (List ℕ)) (first : ℕ) (components : List Component)
    → AllServe tables.operations (procs_in (wholes_from facts tables imports first components)) (flat_map (component_served facts) components)
components_serve facts tables imports first [] = tt
components_serve facts tables imports first (component ∷ components) =
    zip_append (ServesAt tables.operations) (whole_of facts tables imports (first, component)).procs (component_served facts component)
    (procs_in (wholes_from facts tables imports (first + 1) components)) (flat_map (component_served facts) components)
    (component_serves facts tables imports first component) (components_serve facts tables imports (first + 1) components)

-- ---- numbers of procs

-- an operation that is served at a place has the number of that place
pub record ServedAt (table : List (Spot × Operation)) (spot : Spot) (number : ℕ) : Type 0 where
  pub operation : Operation
  pub found : found_at table spot ≡ Some operation
  pub numbered : slice_get (things_in table) (number_in (keys_of table) spot) ≡ Some operation
  pub proc : operation.proc ≡ Some number

proc_is_ok : (core : Core) (table : List (Spot × Operation)) (number : ℕ) (proc : Proc) (spot : Spot) → core.operations ≡ things_in table
    → ServesAt table proc spot → ServedAt table spot number → IsTrue (proc_ok core number proc)
proc_is_ok core table number proc spot same serving served =
    let there : slice_get core.operations proc.op ≡ Some served.operation = (λ i. slice_get (same i) (serving.is i)) ∙ served.numbered in
    rw (there, served.proc) (and_from _ _ (eq-eqb number number refl) (serving.names served.operation served.found))

pub procs_are_ok : (core : Core) (table : List (Spot × Operation)) (number : ℕ) (procs : List Proc) (spots : List Spot) → core.operations ≡ things_in table
    → AllServe table procs spots → ((place : ℕ) (spot : Spot) → At spots place spot → ServedAt table spot (number + place)) → IsTrue (procs_ok core number procs)
procs_are_ok core table number [] [] same serving served = refl
procs_are_ok core table number [] (spot ∷ spots) same serving served = absurd serving
procs_are_ok core table number (proc ∷ procs) [] same serving served = absurd serving
procs_are_ok core table number (proc ∷ procs) (spot ∷ spots) same serving served =
    let first : number + 0 ≡ number = omega arith in
    and_from _ _
    (proc_is_ok core table number proc spot same serving.0 (subst (ServedAt table spot) first (served 0 spot refl)))
    (procs_are_ok core table (suc number) procs spots same serving.1 (λ place one h. later place one (served (suc place) one h)))
  where
    later : (place : ℕ) (one : Spot) → ServedAt table one (number + suc place) → ServedAt table one (suc number + place)
    later place one there =
        let next : number + suc place ≡ suc number + place = omega arith in
        subst (ServedAt table one) next there
